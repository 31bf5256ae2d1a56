-- What the passes made, taken back.
use Rattle.std.proofs.Common.{◌≡◌, ℕ, false, not, ◌&&◌, eqb, arith}
use Rattle.std.proofs.lemmas.Bool.Decides.{nat_tests}
use Rattle.schedule.specs.Ranges.{Ranges, end_mark}
use Rattle.writer.proofs.Inverse.{number_back, passes_taken_back, pair_below}
use Rattle.reader.specs.Back.{PassesAnswer}

-- A pair whose mark stands before no block.
pub in_order : (s t mark : ℕ) → (s ≡ mark → t ≡ mark) → (eqb s mark && not (eqb t mark)) ≡ false
in_order s t mark h = grind (arith, nat_tests)

-- What the passes make is taken back without a refusal.
pub passes_answer : (R : Ranges) → PassesAnswer R
passes_answer R =
    record {
      second = λ place j r y l h k. grind (arith, nat_tests, (passes_taken_back R).second j r y k);
      first = λ place j s t l h k o.
          let z = number_back R j s t in
          let below = pair_below R s t h k in
          let order = in_order s t (end_mark R) o in
          grind (arith, nat_tests, (passes_taken_back R).first j s t l h k);
    }
