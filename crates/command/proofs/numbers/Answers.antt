use Rattle.std.proofs.Common.{◌≡◌, ℕ, ◌<◌, Bool, true, false, List, length, get_or, sym, subst, vec_items, Vec, arith}
use Rattle.std.specs.Prelude.{◌==◌}
use Rattle.std.specs.Option.{option_map}
use Rattle.std.specs.Bool.{then_some}
use Rattle.std.specs.declared.alloc.Global.{Global}
use Rattle.std.proofs.lemmas.List.{nil_from_length}
use Rattle.std.proofs.lemmas.Bool.Decides.{nat_tests}
use Rattle.command.specs.Lines.{space, Fields}
use Rattle.command.proofs.Rests.{Left, Reads, first_is, left_after, read_none, read_all, not_fields}
use Rattle.command.proofs.numbers.Goals as goal
use Rattle.command.proofs.numbers.Goals.{in_default, in_default-2}

-- All numbers are read where nothing is left; where more is left, and no space leads it, the fields are anything else.
read_end : (all : Vec ℕ Global) (fields rest : List ℕ) (empty : Bool) → empty ≡ (length rest == 0) → Left fields (vec_items all) rest →
    (0 < length rest → get_or rest 0 0 ≡ space → ⊥) → Reads (option_map vec_items (then_some empty all)) fields
read_end all fields rest true test left other = read_all _ _ _ left (nil_from_length rest (grind (arith, nat_tests)))
read_end all fields rest false test left other =
    let some : 0 < length rest = grind (arith, nat_tests) in
    read_none _ _ _ left (not_fields rest some (other some))

pub loop-rest-preserved : goal.loop-rest-preserved
loop-rest-preserved c =
    let first : get_or c.loop-rest.rest.now 0 0 ≡ space = omega arith in
    let e = first_is c.loop-rest.rest.now space (omega arith) first in
    rw c.in_ok-push.ensures.items
    (left_after _ _ _ _ _ c.loop-rest.invariant
    (λ ns. (λ f. (c.in-Some.ensures.reads ns).0 (subst (Fields ns) e f), λ p. subst (Fields ns) (sym e) ((c.in-Some.ensures.reads ns).1 p))))

pub returns : goal.returns
returns c =
    rw c.then_some.ensures
    (read_end _ _ _ _ c.is_empty.ensures c.loop-rest.invariant
    (elim c.if-rest-lt1.branch [ in_default w ↦ (λ h e. omega arith) | in_default-2 w ↦ (λ h e. omega arith) ]))
