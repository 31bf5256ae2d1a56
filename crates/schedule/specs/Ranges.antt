-- The numbers that a schedule answers, and the laws that they keep.
use Rattle.std.specs.Prelude.{◌≡◌, ℕ, suc, ◌+◌, ◌-◌, ◌*◌, ◌<◌, ◌≤◌}

pub record Ranges : Type 0 where
  -- B: a block is a number below it.
  pub base : ℕ
  -- How many symbols stand before the first pair: 0 or 1.
  pub lead : ℕ
  -- K: how many pairs a stream may have.
  pub steps : ℕ
  -- C(j): the first pass leaves a carrier below it, which stays in group j.
  pub carrier : ℕ → ℕ
  -- Y(j): what the first pass carries over into group j, the spill, is below it.
  pub spill : ℕ → ℕ

-- The symbol that ends a recording.
abbrev pub end_mark : Ranges → ℕ
end_mark R = R.base

-- A, the count of symbols: the blocks and the end mark.
abbrev pub alphabet : Ranges → ℕ
alphabet R = R.base + 1

-- N, the blocks of the longest recording.
abbrev pub longest : Ranges → ℕ
longest R = R.lead + 2 * R.steps - 1

-- The laws, as they are numbered in docs/FORMAT.md; and no carrier or spill range beyond the steps.
pub record Lawful (R : Ranges) : Type 0 where
  -- 1
  pub base_low : 32 ≤ R.base
  pub base_high : R.base ≤ 16777216
  pub steps_low : 1 ≤ R.steps
  pub steps_high : R.steps ≤ 65535
  pub lead_high : R.lead ≤ 1
  -- 2
  pub first_spill_alone : R.lead ≡ 0 → R.spill 0 ≡ 1
  pub first_spill_lead : R.lead ≡ 1 → R.spill 0 ≡ alphabet R
  pub spill_low : (j : ℕ) → 1 ≤ j → j ≤ R.steps → 1 ≤ R.spill j
  pub spill_high : (j : ℕ) → 1 ≤ j → j ≤ R.steps → R.spill j ≤ 2 * R.base
  -- 3
  pub carrier_low : (j : ℕ) → j < R.steps → 2 ≤ R.carrier j
  pub carrier_high : (j : ℕ) → j < R.steps → R.carrier j ≤ alphabet R
  -- 4
  pub first_group_fits : R.lead ≡ 0 → R.carrier 0 ≤ R.base
  pub group_fits : (j : ℕ) → j < R.steps → 1 ≤ j + R.lead → R.carrier j * R.spill j ≤ R.base * R.base
  -- 5
  pub pair_fits : (j : ℕ) → j < R.steps → alphabet R * alphabet R ≤ R.carrier j * R.spill (suc j)
  -- beyond
  pub no_carrier : (j : ℕ) → R.steps ≤ j → R.carrier j ≡ 0
  pub no_spill : (j : ℕ) → R.steps < j → R.spill j ≡ 0
