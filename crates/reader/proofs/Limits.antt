-- What is below a carrier's limit.
use Rattle.std.proofs.Common.{ℕ, ◌<◌, ◌≤◌, arith}
use Rattle.std.proofs.lemmas.Bool.Decides.{nat_tests}
use Rattle.schedule.specs.Ranges.{Ranges, Lawful}
use Rattle.reader.specs.Back.{limit}

-- A carrier below its range is below its limit, and 0 is below every limit.
pub below_limit : (R : Ranges) → Lawful R → (j r : ℕ) → j < R.steps → r < R.carrier j → r < limit R j
below_limit R law j r l h = grind (arith, nat_tests)

pub zero_below_limit : (R : Ranges) → Lawful R → (j : ℕ) → j ≤ R.steps → 0 < limit R j
zero_below_limit R law j h = grind (arith, nat_tests, law.carrier_low j)
