-- An offer that is not refused.
use Rattle.std.proofs.Common.{◌≡◌, ℕ, ◌+◌, ◌<◌, ◌≤◌, List, length, Ok, Result, arith}
use Rattle.std.proofs.lemmas.Bool.Decides.{nat_tests}
use Rattle.schedule.specs.Faults.{judged}
use Rattle.schedule.proofs.Judged.{judged_clear}
use Rattle.std.specs.List.{AllByRecursion}
use Rattle.schedule.specs.Ranges.{Ranges, longest}
use Rattle.writer.specs.Calls.{offer_writes, offer_rows}
use Rattle.writer.proofs.Fronts.{all_below}

-- An offer that no row stands against.
pub record Fine (R : Ranges) (count : ℕ) (piece : List ℕ) (room : ℕ) : Type 0 where
  pub fits : count + length piece ≤ longest R
  pub below : AllByRecursion (λ x. x < R.base) piece
  pub room_for : offer_writes R count (length piece) ≤ room

pub fine : (R : Ranges) (count : ℕ) (piece : List ℕ) (room : ℕ) → ◌≡◌ {A = Result (Unit {0}) (ℕ × ℕ)} (Ok tt) (judged (offer_rows R count piece room) tt) → Fine R count piece room
fine R count piece room e =
    let clear = (judged_clear (offer_rows R count piece room) tt tt e).0 in
    record {
      fits = let t = clear.0 in grind (arith, nat_tests);
      below = let t = clear.1.0 in all_below R.base piece (grind (arith, nat_tests));
      room_for = let t = clear.1.1.0 in grind (arith, nat_tests);
    }
