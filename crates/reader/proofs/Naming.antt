-- What a group, a take and a stop are answered, by one name each.
use Rattle.std.proofs.Common.{ℕ, Bool, List, [], ◌∷◌, ltb, Result}
use Rattle.schedule.specs.Faults.{judged}
use Rattle.schedule.specs.Ranges.{Ranges}
use Rattle.reader.specs.declared.reading.Reading.{Reading}
use Rattle.reader.specs.Reading.{found, hands_over, group_rows}
use Rattle.reader.specs.Calls.{take_rows, take_brings}

-- Group j of the number w: a refusal, or what it brings.
abbrev pub group_answer : Ranges → ℕ → ℕ → ℕ → ℕ → Result (List ℕ × Bool) (ℕ × ℕ)
group_answer R place j before w = judged (group_rows R place j before w) (hands_over R (found R j before w))

abbrev pub take_answer : Ranges → Reading → ℕ → Result (List ℕ × Bool) (ℕ × ℕ)
take_answer R g b = judged (take_rows R g b) (take_brings R g b)

abbrev pub stop_rows : Reading → List (ℕ × ℕ × Bool)
stop_rows g = (26, g.count, ltb 0 g.count) ∷ []
