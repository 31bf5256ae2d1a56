-- The passes taken back.
use Rattle.std.specs.Prelude.{◌≡◌, ℕ, ◌+◌, ◌*◌, ◌/◌, ◌%◌, ◌<◌}
use Rattle.schedule.specs.Ranges.{Ranges, alphabet}
use Rattle.writer.specs.Stream.{first_pass}

-- A pair's number z, from its carrier r(j) and its spill y(j + 1); and the pair of a number.
abbrev pub pair_number : Ranges → ℕ → ℕ → ℕ → ℕ
pair_number R j r y = y * R.carrier j + r

abbrev pub pair_of : Ranges → ℕ → ℕ × ℕ
pair_of R z = (z % alphabet R, z / alphabet R)

-- The carrier r(j) and the spill y(j) of a group's number.
abbrev pub second_pass_back : Ranges → ℕ → ℕ → ℕ × ℕ
second_pass_back R j w = (w / R.spill j, w % R.spill j)

-- Each pass, taken back, gives what went in: any two symbols; any carrier and spill in range.
pub record PassesTakenBack (R : Ranges) : Type 0 where
  pub first : (j s t : ℕ) → j < R.steps → s < alphabet R → t < alphabet R →
      pair_of R (pair_number R j (first_pass R j s t).0 (first_pass R j s t).1) ≡ (s, t)
  pub second : (j r y : ℕ) → y < R.spill j → second_pass_back R j (r * R.spill j + y) ≡ (r, y)
