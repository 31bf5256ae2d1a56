-- What a reader of SOLE answers at width 5.
use Rattle.std.specs.Prelude.{◌≡◌, ℕ, Bool, true, false, List, [], ◌∷◌, Ok, Err, Result}
use Rattle.schedule.specs.Faults.{judged}
use Rattle.schedule.specs.Kinds.{sole}
use Rattle.schedule.specs.Ranges.{Ranges}
use Rattle.writer.specs.Worked.{WorkedStreams}
use Rattle.reader.specs.declared.reading.Reading.{Reading}
use Rattle.reader.specs.Reading.{started, completes}
use Rattle.reader.specs.Calls.{take_rows, take_brings, after_whole}

-- What is answered to a block: what it brings, or a refusal.
abbrev pub answer : Ranges → Reading → ℕ → Result (List ℕ × Bool) (ℕ × ℕ)
answer R g b = judged (take_rows R g b) (take_brings R g b)

abbrev pub left : Ranges → Reading → ℕ → Result (List ℕ × Bool) (ℕ × ℕ) → Reading
left R g b (Ok x) = after_whole R g b (completes R.lead R.base g.step g.low b) x.1
left R g b (Err e) = g

abbrev pub answers : Ranges → Reading → List ℕ → List (Result (List ℕ × Bool) (ℕ × ℕ))
answers R g [] = []
answers R g (b ∷ bs) = answer R g b ∷ answers R (left R g b (answer R g b)) bs

abbrev pub nothing : Result (List ℕ × Bool) (ℕ × ℕ)
nothing = Ok ([], false)

pub record Worked : Type 0 where
  pub streams : WorkedStreams
  pub pair_beyond_range : answers (sole 5) started (1 ∷ 2 ∷ 1 ∷ []) ≡ nothing ∷ nothing ∷ Err (22, 2) ∷ []
  pub ends : answers (sole 5) started (0 ∷ 2 ∷ 1 ∷ []) ≡ nothing ∷ nothing ∷ Ok ([], true) ∷ []
  pub carrier_beyond_range : answers (sole 5) started (0 ∷ 16 ∷ 31 ∷ []) ≡ nothing ∷ nothing ∷ Err (21, 2) ∷ []
  pub hands_over_two : answers (sole 5) started (0 ∷ 12 ∷ 30 ∷ []) ≡ nothing ∷ nothing ∷ Ok (0 ∷ 0 ∷ [], false) ∷ []
  pub mark_before_block : answers (sole 5) started (0 ∷ 1 ∷ 0 ∷ []) ≡ nothing ∷ nothing ∷ Err (23, 2) ∷ []
  pub closing_not_zero : answers (sole 5) started (0 ∷ 6 ∷ 2 ∷ []) ≡ nothing ∷ nothing ∷ Err (24, 2) ∷ []
