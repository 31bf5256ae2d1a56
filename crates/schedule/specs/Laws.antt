-- SOLE and LOSE keep the laws at every width. These are proofs, which nobody has to believe; they stand here since an
-- implementation can give only a lemma of specs/ as the proof of a law.
use Rattle.std.specs.Prelude.{◌≡◌, ℕ, suc, ◌+◌, ◌-◌, ◌*◌, ◌≤◌, Bool, true, false, ◌⊎◌, refl}
use Rattle.std.proofs.Common.{sym, inl, inr, lit≤, mul-le-mul, arith}
use Rattle.std.proofs.Math.Path.{subst}
use Rattle.std.proofs.lemmas.Bool.Decides.{nat_tests}
use Rattle.schedule.specs.Ranges.{Lawful}
use Rattle.schedule.specs.Kinds.{known, fourfold, sole, lose, kind}
use Rattle.schedule.specs.Widths.{bits_of}
use Rattle.schedule.specs.declared.width.Width.{Width}
use Rattle.schedule.specs.declared.width.Width.TheVariants.{Five, Eight, Sixteen, TwentyFour}

group_sum : (c u : ℕ) → c * (c + u + u) ≤ (c + u) * (c + u)
group_sum c u = omega arith

group_product : (b u : ℕ) → u ≤ b → (b - u) * (b + u) ≤ b * b
group_product b u h =
    let e : b - u + u ≡ b = omega arith in
    subst (λ (n : ℕ). (b - u) * (n + u) ≤ n * n) e (group_sum (b - u) u)

pair_sum : (c u : ℕ) → u * u + 2 * u + 1 ≤ 2 * c → (c + u + 1) * (c + u + 1) ≤ c * (c + u + u + 4)
pair_sum c u h = omega arith

-- u is 4j + lead, and m its last value.
pair_product : (b u m : ℕ) → u ≤ m → m ≤ b → m * m + 4 * m + 1 ≤ 2 * b → (b + 1) * (b + 1) ≤ (b - u) * (b + (u + 4))
pair_product b u m h le big =
    let p : u * u ≤ m * m = mul-le-mul h h in
    let e : b - u + u ≡ b = omega arith in
    subst (λ (n : ℕ). (n + 1) * (n + 1) ≤ (b - u) * (n + (u + 4))) e (omega (arith, pair_sum (b - u) u (omega arith)))

module _ (b l k : ℕ) where
  m : ℕ
  m = 4 * k - 4 + l

  fourfold_lawful : 32 ≤ b → b ≤ 16777216 → l ≤ 1 → 1 ≤ k → k ≤ 65535 → m + 4 ≤ b → m * m + 4 * m + 1 ≤ 2 * b → Lawful (fourfold b l k)
  unfolding m
  fourfold_lawful low high lead one many small big =
      record {
        base_low = low;
        base_high = high;
        steps_low = one;
        steps_high = many;
        lead_high = lead;
        first_spill_alone = λ e. grind (arith, nat_tests);
        first_spill_lead = λ e. grind (arith, nat_tests);
        spill_low = λ j p h. grind (arith, nat_tests);
        spill_high = λ j p h. grind (arith, nat_tests);
        carrier_low = λ j h. grind (arith, nat_tests);
        carrier_high = λ j h. grind (arith, nat_tests);
        first_group_fits = λ e. grind (arith, nat_tests);
        group_fits = λ j h p.
            let q : (b - (4 * j + l)) * (b + (4 * j + l)) ≤ b * b = group_product b (4 * j + l) (omega arith) in grind (arith, nat_tests);
        pair_fits = λ j h.
            let p : (b + 1) * (b + 1) ≤ (b - (4 * j + l)) * (b + (4 * j + l + 4)) = pair_product b (4 * j + l) m (omega arith) (omega arith) big in
            let c : (fourfold b l k).carrier j ≡ b - (4 * j + l) = grind (arith, nat_tests) in
            let y : (fourfold b l k).spill (suc j) ≡ b + (4 * j + l + 4) = grind (arith, nat_tests) in
            subst (λ (n : ℕ). (b + 1) * (b + 1) ≤ n * ((fourfold b l k).spill (suc j))) (sym c)
            (subst (λ (n : ℕ). (b + 1) * (b + 1) ≤ (b - (4 * j + l)) * n) (sym y) p);
        no_carrier = λ j h. grind (arith, nat_tests);
        no_spill = λ j h. grind (arith, nat_tests);
      }

known_cases : (w : ℕ) → known w ≡ true → ((w ≡ 5) ⊎ (w ≡ 8)) ⊎ ((w ≡ 16) ⊎ (w ≡ 24))
known_cases w h = grind (arith, nat_tests)

-- What holds at each width that is built.
at_known : (P : ℕ → Type 0) (w : ℕ) → known w ≡ true → P 5 → P 8 → P 16 → P 24 → P w
at_known P w h a b c d =
    elim (known_cases w h) [
      | inl x ↦ elim x [ inl e ↦ subst P (sym e) a | inr e ↦ subst P (sym e) b ]
      | inr x ↦ elim x [ inl e ↦ subst P (sym e) c | inr e ↦ subst P (sym e) d ]
    ]

pub sole_lawful : (w : ℕ) → known w ≡ true → Lawful (sole w)
unfolding m
sole_lawful w h =
    at_known (λ n. Lawful (sole n)) w h
    (fourfold_lawful 32 0 2 (lit≤ tt) (lit≤ tt) (lit≤ tt) (lit≤ tt) (lit≤ tt) (lit≤ tt) (lit≤ tt))
    (fourfold_lawful 256 0 6 (lit≤ tt) (lit≤ tt) (lit≤ tt) (lit≤ tt) (lit≤ tt) (lit≤ tt) (lit≤ tt))
    (fourfold_lawful 65536 0 91 (lit≤ tt) (lit≤ tt) (lit≤ tt) (lit≤ tt) (lit≤ tt) (lit≤ tt) (lit≤ tt))
    (fourfold_lawful 16777216 0 1448 (lit≤ tt) (lit≤ tt) (lit≤ tt) (lit≤ tt) (lit≤ tt) (lit≤ tt) (lit≤ tt))

pub lose_lawful : (w : ℕ) → known w ≡ true → Lawful (lose w)
unfolding m
lose_lawful w h =
    at_known (λ n. Lawful (lose n)) w h
    (fourfold_lawful 32 1 2 (lit≤ tt) (lit≤ tt) (lit≤ tt) (lit≤ tt) (lit≤ tt) (lit≤ tt) (lit≤ tt))
    (fourfold_lawful 256 1 5 (lit≤ tt) (lit≤ tt) (lit≤ tt) (lit≤ tt) (lit≤ tt) (lit≤ tt) (lit≤ tt))
    (fourfold_lawful 65536 1 90 (lit≤ tt) (lit≤ tt) (lit≤ tt) (lit≤ tt) (lit≤ tt) (lit≤ tt) (lit≤ tt))
    (fourfold_lawful 16777216 1 1448 (lit≤ tt) (lit≤ tt) (lit≤ tt) (lit≤ tt) (lit≤ tt) (lit≤ tt) (lit≤ tt))

pub bits_known : (w : Width) → known (bits_of w) ≡ true
bits_known Five = refl
bits_known Eight = refl
bits_known Sixteen = refl
bits_known TwentyFour = refl

pub kind_lawful : (leads : Bool) (w : Width) → Lawful (kind leads (bits_of w))
kind_lawful false w = sole_lawful (bits_of w) (bits_known w)
kind_lawful true w = lose_lawful (bits_of w) (bits_known w)
