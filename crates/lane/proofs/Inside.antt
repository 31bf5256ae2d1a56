-- A reader inside a stream: what it has accepted since the last end are the groups of what it has brought since.
use Rattle.std.proofs.Common.{◌≡◌, ℕ, zero, suc, ◌+◌, ◌*◌, ◌/◌, ◌%◌, ◌<◌, ◌≤◌, Bool, true, false, cond, not, ◌&&◌, ◌||◌, eqb, List, [], ◌∷◌, ◌++◌, length, drop, Some, None, Option, sym, refl, ap, ◌∙◌, subst, ap₂, append-nil, zero-le, mod-lt, div-lt_iff_lt-mul, div-add-mod', arith}
use lib.Arith.{digits_div, digits_mod}
use Rattle.std.specs.List.{AllByRecursion}
use Rattle.std.proofs.lemmas.Bool.{eqb-true}
use Rattle.std.proofs.lemmas.List.{length-append}
use Rattle.schedule.proofs.Each.{each_append}
use Rattle.std.proofs.lemmas.Bool.Decides.{nat_tests}
use Rattle.schedule.specs.Ranges.{Ranges, Lawful, alphabet, end_mark}
use Rattle.schedule.proofs.Sizes.{by_lead, spill_there}
use Rattle.writer.specs.Stream.{Valid, symbols, first_spill, first_pass, in_blocks, group, closed, complete, stream}
use Rattle.writer.specs.Holding.{spill_left}
use Rattle.writer.specs.Passes.{pair_number, pair_of}
use Rattle.writer.proofs.Growing.{pair_grows}
use Rattle.writer.proofs.Closing.{symbols_even, symbols_odd, symbols_lone, stream_pair}
use Rattle.writer.proofs.Opening.{none_written, no_spill_yet}
use Rattle.reader.specs.declared.reading.Reading.{Reading}
use Rattle.reader.specs.Reading.{pair_before, lead_symbol, hands_over, marked}
use Rattle.reader.proofs.Taking.{reader_at, Shown}

pub record Known (R : Ranges) (j r : ℕ) (bs since : List ℕ) : Type 0 where
  pub long : length since ≡ 2 * j + R.lead
  pub below : AllByRecursion (λ x. x < R.base) since
  pub blocks : bs ≡ complete R since ++ group R j r (spill_left R since)

abbrev pub InGroup : Ranges → (step before : ℕ) (low : Option ℕ) (bs since : List ℕ) → Type 0
InGroup R zero before None bs since = (bs ≡ []) × (since ≡ [])
InGroup R (suc j) before None bs since = Known R j before bs since
InGroup R zero before (Some low) bs since = (bs ≡ low ∷ []) × (since ≡ [])
InGroup R (suc j) before (Some low) bs since = (bs' : List ℕ) × (bs ≡ bs' ++ low ∷ []) × Known R j before bs' since

abbrev pub Inside : Ranges → Reading → List ℕ → List ℕ → Type 0
Inside R g = InGroup R g.step g.before g.low

-- A group of new blocks: the reader goes on, or the stream ends.
abbrev pub Moves : Ranges → Reading → List ℕ → List ℕ → List ℕ × Bool → Type 0
Moves R g bs since x =
    elim x.1 [
      | true ↦ Valid R (since ++ x.0) × (bs ≡ stream R (since ++ x.0))
      | false ↦ Inside R g bs (since ++ x.0)
    ]

-- A number is a group, by its quotient and its rest.
as_group : (R : Ranges) (j w r y : ℕ) → w / R.spill j ≡ r → w % R.spill j ≡ y → in_blocks R.lead R.base j w ≡ group R j r y
as_group R j w r y e f =
    ap (in_blocks R.lead R.base j)
    (sym (div-add-mod' w (R.spill j)) ∙ ap₂ (λ (a b : ℕ). a * R.spill j + b) e f)

-- The pair that was read is the pair that was written.
read_pair : (R : Ranges) (i before y : ℕ) → before < R.carrier i → let z = pair_number R i before y in
    first_pass R i (pair_of R z).0 (pair_of R z).1 ≡ (before, y)
read_pair R i before y h =
    let z = pair_number R i before y in
    ap (λ (n : ℕ). (n % R.carrier i, n / R.carrier i)) (div-add-mod' z (alphabet R))
    ∙ ap₂ (λ (a b : ℕ). (a, b)) (digits_mod y h) (digits_div y h)

-- A symbol that is no mark is a block.
a_block : (R : Ranges) (x : ℕ) → x < alphabet R → eqb x (end_mark R) ≡ false → x < R.base
a_block R x h e = grind (arith, nat_tests)

module _ (R : Ranges) (law : Lawful R) where
  abbrev m : ℕ
  m = end_mark R

  -- Group i + 1, of the number w, is complete.
  module _ (place i before w : ℕ) (low : before < R.carrier i) (high : suc i ≤ R.steps) (bs since : List ℕ) (k : Known R i before bs since) where
    abbrev r : ℕ
    r = w / R.spill (suc i)

    abbrev z : ℕ
    z = pair_before R i before w

    abbrev s : ℕ
    s = z % alphabet R

    abbrev t : ℕ
    t = z / alphabet R

    abbrev new : List ℕ
    new = in_blocks R.lead R.base (suc i) w

    -- Both groups by the pair.
    pass : first_pass R i s t ≡ (before, w % R.spill (suc i))
    pass = read_pair R i before (w % R.spill (suc i)) low

    both : (c : ℕ) → r ≡ c →
        bs ++ new ≡ (complete R since ++ group R i (first_pass R i s t).0 (spill_left R since)) ++ group R (suc i) c (first_pass R i s t).1
    both c e =
        ap₂ (λ (ds cs : List ℕ). ds ++ cs) k.blocks (as_group R (suc i) w c _ e refl)
        ∙ ap (λ (p : ℕ × ℕ). (complete R since ++ group R i p.0 (spill_left R since)) ++ group R (suc i) c p.1) (sym pass)

    -- The stream ends with this pair, and the longest recording has its mark in the last pair.
    ends : (ys : List ℕ) → AllByRecursion (λ x. x < R.base) ys → length ys ≤ length since + 1 → symbols R ys ≡ since ++ s ∷ t ∷ [] → r ≡ 0 →
        Valid R ys × (bs ++ new ≡ stream R ys)
    ends ys below few is e = (record { below = below; few = omega (arith, k.long) }, both 0 e ∙ sym (stream_pair R since i s t k.long ys is))

    some : 0 < alphabet R
    some = omega arith

    by_marks : (a b : Bool) → eqb s m ≡ a → eqb t m ≡ b → z < alphabet R * alphabet R → (a && not b) ≡ false → ((a || (b || false)) ≡ true → r ≡ 0) →
        Moves R (reader_at 0 (suc (suc i)) r None) (bs ++ new) since (cond a [] (s ∷ cond b [] (t ∷ [])), a || (b || false))
    by_marks true true e f h n zero_at =
        subst (λ (ys : List ℕ). Valid R ys × (bs ++ new ≡ stream R ys)) (sym (append-nil since))
        (ends since k.below (omega arith)
        (symbols_even R since i k.long ∙ ap₂ (λ (a b : ℕ). since ++ a ∷ b ∷ []) (sym (eqb-true s m e)) (sym (eqb-true t m f))) (zero_at refl))
    by_marks true false e f h n zero_at = let c : ◌≡◌ {A = ℕ} 0 1 = cc in absurd (omega arith)
    by_marks false true e f h n zero_at =
        ends (since ++ s ∷ []) (each_append (λ x. x < R.base) since (s ∷ []) k.below (a_block R s (mod-lt z some) e, tt))
        (omega (arith, length-append since (s ∷ [])))
        (symbols_odd R since i s k.long ∙ ap (λ (b : ℕ). since ++ s ∷ b ∷ []) (sym (eqb-true t m f))) (zero_at refl)
    by_marks false false e f h n zero_at =
        let grows = pair_grows R since i s t k.long in
        record {
          long = omega (arith, k.long, length-append since (s ∷ t ∷ []));
          below = each_append (λ x. x < R.base) since (s ∷ t ∷ []) k.below
              (a_block R s (mod-lt z some) e, (a_block R t ((div-lt_iff_lt-mul some).1 h) f, tt));
          blocks = both r refl ∙ ap₂ (λ (cs : List ℕ) (v : ℕ). cs ++ group R (suc i) r v) (sym grows.writes) grows.holds.spill;
        }

    pub group_moves : (x : List ℕ × Bool) → Shown R place (suc i) before w x → Moves R (reader_at 0 (suc (suc i)) r None) (bs ++ new) since x
    group_moves x g =
        let clear = g.pair_clear in
        let below : z < alphabet R * alphabet R = let c = clear.0 in grind (arith, nat_tests) in
        subst (Moves R (reader_at 0 (suc (suc i)) r None) (bs ++ new) since) (sym g.brings)
        (by_marks (eqb s m) (eqb t m) refl refl below clear.1.0 (λ q. g.ends_at_zero (ap (λ (p : List ℕ × Bool). p.1) g.brings ∙ q)))

  -- Group 0 of the number w, by the lead.
  module _ (w : ℕ) where
    abbrev r₀ : ℕ
    r₀ = w / R.spill 0

    abbrev y₀ : ℕ
    y₀ = w % R.spill 0

    abbrev first : List ℕ
    first = in_blocks R.lead R.base 0 w

    rest_below : y₀ < R.spill 0
    rest_below = mod-lt w (spill_there R law 0 (omega arith)).0

    alone : R.lead ≡ 0 → Known R 0 r₀ first []
    alone e =
        record {
          long = omega arith;
          below = tt;
          blocks = as_group R 0 w r₀ 0 refl (omega (arith, rest_below, law.first_spill_alone e))
              ∙ ap₂ (λ (b : List ℕ) (v : ℕ). b ++ group R 0 r₀ v) (sym (none_written R law)) (sym (no_spill_yet R law));
        }

    led : R.lead ≡ 1 → y₀ < R.base → Known R 0 r₀ first (y₀ ∷ [])
    led e h = record { long = omega arith; below = (h, tt); blocks = rw e (rw e at (as_group R 0 w r₀ y₀ refl refl)) }

    led_end : R.lead ≡ 1 → y₀ ≡ m → r₀ ≡ 0 → first ≡ stream R []
    led_end e f c =
        as_group R 0 w 0 m c f ∙ sym (ap₂ (λ (l : ℕ) (ss : List ℕ). closed R 0 (first_spill l ss) (drop l ss)) e (symbols_lone R e))

    led_moves : R.lead ≡ 1 → (b : Bool) → eqb y₀ m ≡ b → ((b || false) ≡ true → r₀ ≡ 0) →
        Moves R (reader_at 0 1 r₀ None) first [] (cond b [] (y₀ ∷ []), b || false)
    led_moves e true f zero_at = (record { below = tt; few = zero-le }, led_end e (eqb-true y₀ m f) (zero_at refl))
    led_moves e false f zero_at = led e (a_block R y₀ (omega (arith, rest_below, law.first_spill_lead e)) f)

    pub first_moves : (place before : ℕ) (x : List ℕ × Bool) → Shown R place 0 before w x → Moves R (reader_at 0 1 r₀ None) first [] x
    first_moves place before x g =
        subst (Moves R (reader_at 0 1 r₀ None) first []) (sym g.brings)
        (by_lead (λ l. (marked m (lead_symbol l y₀) ≡ true → r₀ ≡ 0) → Moves R (reader_at 0 1 r₀ None) first [] (hands_over R (lead_symbol l y₀))) R law
        (λ e _. alone e) (λ e. led_moves e (eqb y₀ m) refl) (λ q. g.ends_at_zero (ap (λ (p : List ℕ × Bool). p.1) g.brings ∙ q)))
