-- The passes taken back, with what refuses them.
use Rattle.std.specs.Prelude.{◌≡◌, ℕ, ◌+◌, ◌*◌, ◌/◌, ◌<◌, ◌≤◌, Bool, cond, not, ◌&&◌, List, [], ◌∷◌, Ok, Result, ◌==◌, nat_le}
use Rattle.schedule.specs.Faults.{judged}
use Rattle.schedule.specs.Ranges.{Ranges, alphabet, end_mark}
use Rattle.writer.specs.Stream.{first_pass}
use Rattle.writer.specs.Passes.{pair_number, pair_of, second_pass_back}

-- The limit of the carrier r(j): C(j), and 1 when j = K.
abbrev pub limit : Ranges → ℕ → ℕ
limit R j = cond (j == R.steps) 1 (R.carrier j)

-- The refusals of the second pass taken back, at a group's number w.
abbrev pub carrier_rows : Ranges → ℕ → ℕ → ℕ → List (ℕ × ℕ × Bool)
carrier_rows R place j w = (21, place, nat_le (limit R j) (w / R.spill j)) ∷ []

-- The refusals of the first pass taken back, at a pair's number z.
abbrev pub pair_rows : Ranges → ℕ → ℕ → List (ℕ × ℕ × Bool)
pair_rows R place z =
    (22, place, nat_le (alphabet R * alphabet R) z)
    ∷ (23, place, ((pair_of R z).0 == end_mark R) && not ((pair_of R z).1 == end_mark R))
    ∷ []

-- What the passes taken back answer: of group j's number w, and of pair j's carrier and spill.
abbrev pub second_back : Ranges → ℕ → ℕ → ℕ → Result (ℕ × ℕ) (ℕ × ℕ)
second_back R place j w = judged (carrier_rows R place j w) (second_pass_back R j w)

abbrev pub first_back : Ranges → ℕ → ℕ → ℕ → ℕ → Result (ℕ × ℕ) (ℕ × ℕ)
first_back R place j r y = judged (pair_rows R place (pair_number R j r y)) (pair_of R (pair_number R j r y))

-- They answer what went in: any carrier and spill in range; any two symbols, unless a mark stands before a block.
pub record PassesAnswer (R : Ranges) : Type 0 where
  pub second : (place j r y : ℕ) → j ≤ R.steps → r < limit R j → y < R.spill j → second_back R place j (r * R.spill j + y) ≡ Ok (r, y)
  pub first : (place j s t : ℕ) → j < R.steps → s < alphabet R → t < alphabet R → (s ≡ end_mark R → t ≡ end_mark R) →
      first_back R place j (first_pass R j s t).0 (first_pass R j s t).1 ≡ Ok (s, t)
