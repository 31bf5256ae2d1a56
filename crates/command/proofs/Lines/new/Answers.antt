use Rattle.std.proofs.Common.{◌≡◌, take, refl}
use Rattle.std.proofs.lemmas.List.{take_min}
use Rattle.std.proofs.Math.Nat.{min_comm}
use Rattle.command.specs.Lines.{most}
use Rattle.command.proofs.Lines.new.Goals as goal

pub returns : goal.returns
returns c =
    let counted : take c.min-end.result c.args.input.now ≡ take most c.args.input.now = rw (c.min-end.ensures, min_comm, take_min) refl in
    (counted, refl)
