-- The ranges of SOLE and LOSE at each width.
use Rattle.std.specs.Prelude.{ℕ, suc, ◌+◌, ◌-◌, ◌*◌, ◌^◌, ◌<◌, Bool, true, false, cond, ◌==◌, nat_le, nat_lt}
use Rattle.schedule.specs.Ranges.{Ranges, alphabet}

-- Ranges that leave the base by four more at each step: C(j) = B − u and Y(j) = B + u, where u is 4j + lead.
-- Y(0) is 1 where no symbol stands before the first pair.
abbrev pub fourfold : (base lead steps : ℕ) → Ranges
fourfold base lead steps =
    record {
      base = base;
      lead = lead;
      steps = steps;
      carrier = λ j. cond (nat_lt j steps) (base - (4 * j + lead)) 0;
      spill = λ j. cond (j + lead == 0) 1 (cond (nat_le j steps) (base + (4 * j + lead)) 0);
    }

-- The widths that are built.
abbrev pub known : ℕ → Bool
known width = cond (width == 5) true (cond (width == 8) true (cond (width == 16) true (width == 24)))

abbrev pub by_width : ℕ → (at5 at8 at16 at24 : ℕ) → ℕ
by_width width at5 at8 at16 at24 = cond (width == 5) at5 (cond (width == 8) at8 (cond (width == 16) at16 at24))

abbrev pub sole_steps : ℕ → ℕ
sole_steps width = by_width width 2 6 91 1448

abbrev pub lose_steps : ℕ → ℕ
lose_steps width = by_width width 2 5 90 1448

abbrev pub sole : ℕ → Ranges
sole width = fourfold (2 ^ width) 0 (sole_steps width)

abbrev pub lose : ℕ → Ranges
lose width = fourfold (2 ^ width) 1 (lose_steps width)

-- The ranges of LOSE where a symbol leads, and of SOLE where none does.
abbrev pub kind : (leads : Bool) → ℕ → Ranges
kind false width = sole width
kind true width = lose width

-- With one step more than these ranges have, that step breaks law 5: its pair does not fit.
abbrev pub NoFurtherStep : Ranges → Type 0
NoFurtherStep R =
    let more = fourfold R.base R.lead (suc R.steps) in
    more.carrier R.steps * more.spill (suc R.steps) < alphabet more * alphabet more
