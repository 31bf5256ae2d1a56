-- What take and stop answer and leave.
use Rattle.std.specs.Prelude.{◌≡◌, ℕ, suc, ◌+◌, Bool, true, false, List, [], ◌∷◌, Some, None, Ok, Err, Option, Result, nat_le, nat_lt}
use Rattle.schedule.specs.declared.fault.Fault.{Fault}
use Rattle.schedule.specs.Faults.{number_place, says, judged}
use Rattle.schedule.specs.Ranges.{Ranges}
use Rattle.writer.specs.Passes.{second_pass_back}
use Rattle.reader.specs.declared.reading.Brought.{Brought}
use Rattle.reader.specs.declared.reading.Reading.{Reading}
use Rattle.reader.specs.Reading.{brought, completes, found, hands_over, group_rows, started, InRange}

-- An answer by what it brings, with its fault as number and place.
abbrev pub says_brought : Result Brought Fault → Result (List ℕ × Bool) (ℕ × ℕ)
says_brought (Ok x) = Ok (brought x)
says_brought (Err f) = Err (number_place f)

-- What a block is answered that completes the group of the number w, or none: the refusals, and what it brings.
abbrev pub whole_rows : Ranges → Reading → Option ℕ → List (ℕ × ℕ × Bool)
whole_rows R g None = []
whole_rows R g (Some w) = group_rows R g.count g.step g.before w

abbrev pub whole_brings : Ranges → Reading → Option ℕ → List ℕ × Bool
whole_brings R g None = ([], false)
whole_brings R g (Some w) = hands_over R (found R g.step g.before w)

abbrev pub take_rows : Ranges → Reading → ℕ → List (ℕ × ℕ × Bool)
take_rows R g b = (20, g.count, nat_le R.base b) ∷ whole_rows R g (completes R.lead R.base g.step g.low b)

abbrev pub take_brings : Ranges → Reading → ℕ → List ℕ × Bool
take_brings R g b = whole_brings R g (completes R.lead R.base g.step g.low b)

-- The reader behind the group of the number w: new where an end came.
abbrev pub after_group : Ranges → Reading → ℕ → Bool → Reading
after_group R g w true = started
after_group R g w false =
    record { count = g.count + 1; step = suc g.step; before = (second_pass_back R g.step w).0; low = None }

-- The reader after an accepted block: inside a group, or behind the group that the block completes.
abbrev pub after_whole : Ranges → Reading → ℕ → Option ℕ → Bool → Reading
after_whole R g b None end = record { count = g.count + 1; step = g.step; before = g.before; low = Some b }
after_whole R g b (Some w) end = after_group R g w end

abbrev pub after_take : Ranges → Reading → ℕ → Result Brought Fault → Reading
after_take R g b (Ok x) = after_whole R g b (completes R.lead R.base g.step g.low b) (brought x).1
after_take R g b (Err f) = g

-- The promises of take and stop: reader g before, g' after. A refusal leaves the reader as it was.
pub record Takes (R : Ranges) (g : Reading) (b : ℕ) (answer : Result Brought Fault) (g' : Reading) : Type 0 where
  pub answers : says_brought answer ≡ judged (take_rows R g b) (take_brings R g b)
  pub leaves : g' ≡ after_take R g b answer
  pub in_range : InRange R g → InRange R g'

pub record Stops (g : Reading) (answer : Result (Unit {0}) Fault) (g' : Reading) : Type 0 where
  pub answers : says answer ≡ judged ((26, g.count, nat_lt 0 g.count) ∷ []) tt
  pub leaves : g' ≡ g
