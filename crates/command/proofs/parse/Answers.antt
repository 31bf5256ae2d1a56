use Rattle.std.proofs.Common.{◌≡◌, ℕ, List, get_or, vec_items, refl, arith, rules}
use Rattle.std.specs.Option.{option_map}
use Rattle.command.specs.Lines.{given}
use Rattle.command.proofs.Rests.{first_is, says}
use Rattle.command.proofs.parse.Goals as goal

pub returns : goal.returns
returns c =
    let answer : given c.map.result ≡ option_map {U = ℕ × List ℕ} (λ ns. (get_or c.args.line.now 0 0, ns)) (option_map vec_items c.in_ok-numbers.field-0) = search rules in
    rw answer (says c.args.line.now _ _ (first_is c.args.line.now _ (omega arith) refl) _ c.in_ok-numbers.ensures)
