-- What the laws say of the size of each range, whatever the step.
use Rattle.std.proofs.Common.{◌≡◌, ℕ, zero, suc, ◌*◌, ◌≤◌, sym, subst, inl, inr, arith}
use Rattle.std.proofs.lemmas.Bool.{cases_lt}
use Rattle.schedule.specs.Ranges.{Ranges, Lawful}

-- What holds with lead 0 and with lead 1.
pub by_lead : (P : ℕ → Type 0) (R : Ranges) → Lawful R → (R.lead ≡ 0 → P 0) → (R.lead ≡ 1 → P 1) → P R.lead
by_lead P R law zero_lead one_lead =
    elim (cases_lt R.lead 1) [
      | inl h ↦ let e : R.lead ≡ 0 = omega arith in subst P (sym e) (zero_lead e)
      | inr h ↦ let e : R.lead ≡ 1 = omega (arith, law.lead_high) in subst P (sym e) (one_lead e)
    ]

-- Every spill range up to the last step is there.
pub spill_there : (R : Ranges) → Lawful R → (j : ℕ) → j ≤ R.steps → (1 ≤ R.spill j) × (R.spill j ≤ 2 * R.base)
spill_there R law zero h =
    by_lead (λ _. (1 ≤ R.spill 0) × (R.spill 0 ≤ 2 * R.base)) R law
    (λ e. (omega (arith, law.first_spill_alone e), omega (arith, law.first_spill_alone e, law.base_low)))
    (λ e. (omega (arith, law.first_spill_lead e), omega (arith, law.first_spill_lead e, law.base_low)))
spill_there R law (suc j) h = (law.spill_low (suc j) (omega arith) h, law.spill_high (suc j) (omega arith) h)
