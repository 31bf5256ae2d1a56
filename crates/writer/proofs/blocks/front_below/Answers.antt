use Rattle.std.proofs.Common.{leb, rules, tests}
use Rattle.std.proofs.lemmas.Iterator.{YieldsList-from_slice}
use Rattle.std.proofs.lemmas.Iterator.Search.{position_from_yields_List}
use Rattle.writer.proofs.Fronts.{front_position}
use Rattle.writer.proofs.blocks.front_below.Goals as goal

pub returns : goal.returns
returns c =
    let found =
    position_from_yields_List (leb c.args.base) _ _ c.position.result c.position.ensures.ran (YieldsList-from_slice c.args.piece.now cc)
    (λ x b q k. (search (rules, tests), search (rules, tests))) in
    cc (front_position c.args.base c.args.piece.now)
