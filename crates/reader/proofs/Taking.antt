-- What an accepted group says of its numbers.
use Rattle.std.proofs.Common.{◌≡◌, ℕ, suc, ◌+◌, ◌-◌, ◌*◌, ◌/◌, ◌<◌, Bool, true, false, List, [], ◌∷◌, ◌++◌, Ok, Option, sym, refl, ap, ◌∙◌, zero-le, arith}
use Rattle.std.proofs.lemmas.Bool.{lt-leb}
use Rattle.std.proofs.lemmas.Bool.Decides.{nat_tests}
use Rattle.schedule.specs.Ranges.{Ranges, Lawful}
use Rattle.schedule.proofs.Judged.{Clear, judged_clear, clear_judged, clear_then}
use Rattle.reader.specs.declared.reading.Reading.{Reading}
use Rattle.reader.specs.Back.{limit}
use Rattle.reader.specs.Reading.{found, hands_over, pair_rows_before, closing_rows, group_rows, started, InRange}
use Rattle.reader.specs.Calls.{after_group}
use Rattle.reader.proofs.Naming.{group_answer}

-- The reader with these numbers.
abbrev pub reader_at : ℕ → ℕ → ℕ → Option ℕ → Reading
reader_at n j before low = record { count = n; step = j; before = before; low = low }

clear_append : (rows more : List (ℕ × ℕ × Bool)) → Clear (rows ++ more) → Clear rows × Clear more
clear_append [] more c = (tt, c)
clear_append (row ∷ rows) more c = let p = clear_append rows more c.1 in ((c.0, p.0), p.1)

-- A group that no row refused.
pub record Shown (R : Ranges) (place j before w : ℕ) (x : List ℕ × Bool) : Type 0 where
  pub brings : x ≡ hands_over R (found R j before w)
  pub pair_clear : Clear (pair_rows_before R place j before w)
  pub ends_at_zero : x.1 ≡ true → w / R.spill j ≡ 0
  pub goes_on : x.1 ≡ false → (j < R.steps) × (w / R.spill j < R.carrier j)

pub shown : (R : Ranges) → Lawful R → (place j before w : ℕ) (x : List ℕ × Bool) → Ok x ≡ group_answer R place j before w →
    Shown R place j before w x
shown R law place j before w x e =
    let c = judged_clear (group_rows R place j before w) (hands_over R (found R j before w)) x e in
    let rest = clear_append (pair_rows_before R place j before w) _ c.0.1 in
    let end = ap (λ (y : List ℕ × Bool). y.1) c.1 in
    record {
      brings = c.1;
      pair_clear = rest.0;
      ends_at_zero = λ t. grind (arith, nat_tests, rest.1.0, end);
      goes_on = λ f. grind (arith, nat_tests, c.0.0, rest.1.1.0, end, law.no_carrier j);
    }

-- And a group that none refuses.
pub group_judged : (R : Ranges) (place j before w : ℕ) (x : List ℕ × Bool) → x ≡ hands_over R (found R j before w) →
    w / R.spill j < limit R j → Clear (pair_rows_before R place j before w) → (x.1 ≡ true → w / R.spill j ≡ 0) →
    (x.1 ≡ false → j < R.steps) → group_answer R place j before w ≡ Ok x
group_judged R place j before w x is low pair ends goes_on =
    let end = ap (λ (y : List ℕ × Bool). y.1) is in
    let last_rows = closing_rows R place j (w / R.spill j) (hands_over R (found R j before w)).1 in
    rw (lt-leb (limit R j) (w / R.spill j) low) (
    clear_then (pair_rows_before R place j before w) last_rows _ pair
    ∙ clear_judged last_rows _ (grind (arith, nat_tests, ends, end), (grind (arith, nat_tests, goes_on, end), tt))
    ∙ ap Ok (sym is)
    )

pub started_in_range : (R : Ranges) → Lawful R → InRange R started
started_in_range R law = record { step_high = zero-le; before_below = refl; low_below = tt; counted = omega (arith, law.lead_high) }

-- Behind an accepted group the reader's numbers are in range.
pub group_in_range : (R : Ranges) → Lawful R → (g : Reading) (before w : ℕ) (x : List ℕ × Bool) →
    Ok x ≡ group_answer R g.count g.step before w → g.count + 1 ≡ 2 * suc g.step + R.lead - 1 →
    (end : Bool) → x.1 ≡ end → InRange R (after_group R g w end)
group_in_range R law g before w x e n true f = started_in_range R law
group_in_range R law g before w x e n false f =
    let more = (shown R law g.count g.step before w x e).goes_on f in
    record { step_high = more.0; before_below = more.1; low_below = tt; counted = omega arith }
