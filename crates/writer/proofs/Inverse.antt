-- Each pass, taken back, gives what went in; and the ranges of what a pass makes.
use Rattle.std.proofs.Common.{◌≡◌, ℕ, suc, ◌+◌, ◌*◌, ◌<◌, ap, ◌∙◌, ap₂, mul_comm, div-lt_iff_lt-mul, div-add-mod', arith}
use lib.Arith.{digits_div, digits_mod, digits_lt}
use Rattle.schedule.specs.Ranges.{Ranges, Lawful, alphabet}
use Rattle.writer.specs.Stream.{first_pass}
use Rattle.writer.specs.Passes.{pair_number, pair_of, PassesTakenBack}

-- A pair's number comes back from its carrier and its spill, whatever the range.
pub number_back : (R : Ranges) (j s t : ℕ) → pair_number R j (first_pass R j s t).0 (first_pass R j s t).1 ≡ t * alphabet R + s
number_back R j s t = div-add-mod' (t * alphabet R + s) (R.carrier j)

pub passes_taken_back : (R : Ranges) → PassesTakenBack R
passes_taken_back R =
    record {
      first = λ j s t l h k. ap (pair_of R) (number_back R j s t) ∙ ap₂ (λ a b. (a, b)) (digits_mod t h) (digits_div t h);
      second = λ j r y h. ap₂ (λ a b. (a, b)) (digits_div r h) (digits_mod r h);
    }

-- A pair's number is below A × A, so its spill is below its range.
pub pair_below : (R : Ranges) (s t : ℕ) → s < alphabet R → t < alphabet R → t * alphabet R + s < alphabet R * alphabet R
pair_below R s t h k = digits_lt {q = t} {m = alphabet R} {r = s} {c = alphabet R} k h

pub spill_below : (R : Ranges) → Lawful R → (j s t : ℕ) → j < R.steps → s < alphabet R → t < alphabet R →
    (first_pass R j s t).1 < R.spill (suc j)
spill_below R law j s t l h k =
    (div-lt_iff_lt-mul (omega (arith, law.carrier_low j l))).1
    (omega (arith, pair_below R s t h k, law.pair_fits j l, mul_comm (R.carrier j) (R.spill (suc j))))
