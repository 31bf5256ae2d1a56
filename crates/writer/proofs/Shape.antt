-- How long a stream is, and that its numbers are blocks.
use Rattle.std.proofs.Common.{◌≡◌, ℕ, zero, suc, ◌+◌, ◌-◌, ◌*◌, ◌/◌, ◌%◌, ◌<◌, ◌≤◌, List, [], ◌∷◌, ◌++◌, length, get_or, drop, sym, refl, ap, ◌∙◌, subst, inl, inr, ⊎_elim, mul-le-mul_right, mod-lt, div-lt_iff_lt-mul, arith}
use lib.Arith.{digits_lt}
use Rattle.std.specs.List.{AllByRecursion}
use Rattle.std.proofs.lemmas.Bool.{cases_lt}
use Rattle.std.proofs.lemmas.List.{length-append, length-drop, get_or-append-add}
use Rattle.schedule.proofs.Each.{each_append, each_drop, each_take}
use Rattle.schedule.specs.Ranges.{Ranges, Lawful, alphabet, end_mark}
use Rattle.schedule.proofs.Sizes.{spill_there}
use Rattle.writer.specs.Stream.{Valid, marks, symbols, first_spill, first_pass, in_blocks, group, groups, closed, complete, stream}
use Rattle.writer.specs.Holding.{due, spill_left}
use Rattle.writer.specs.Laws.{StreamShape}
use Rattle.writer.proofs.Numbers.{group_length}
use Rattle.writer.proofs.Inverse.{spill_below}
use Rattle.writer.proofs.Opening.{last_spill_below, first_below, blocks_are_symbols}
use Rattle.writer.proofs.Closing.{marked, stream_is}

groups_length : (R : Ranges) (j y : ℕ) (ss : List ℕ) → length (groups R (suc j) y ss) ≡ 2 * (length ss / 2)
groups_length R j y [] = refl
groups_length R j y (s ∷ []) = refl
groups_length R j y (s ∷ t ∷ ss) = omega (arith, groups_length R (suc j) (first_pass R (suc j) s t).1 ss)

pub first_length : (R : Ranges) → R.lead ≤ 1 → (y : ℕ) (ss : List ℕ) → length (groups R 0 y ss) ≡ 2 * (length ss / 2) + R.lead - 1
first_length R h y [] = omega arith
first_length R h y (s ∷ []) = omega arith
first_length R h y (s ∷ t ∷ ss) =
    let w = (first_pass R 0 s t).0 * R.spill 0 + y in
    let long = group_length R.lead R.base 0 w in
    let more = groups_length R 0 (first_pass R 0 s t).1 ss in
    let all = length-append (in_blocks R.lead R.base 0 w) (groups R 1 (first_pass R 0 s t).1 ss) in
    elim (cases_lt R.lead 1) [ inl k ↦ omega (arith, long.0 (omega arith)) | inr k ↦ omega (arith, long.1 (omega arith)) ]

pub complete_length : (R : Ranges) → R.lead ≤ 1 → (ss : List ℕ) → length (complete R ss) ≡ due R (length ss)
complete_length R h ss =
    first_length R h (first_spill R.lead ss) (drop R.lead ss) ∙ ap (λ (n : ℕ). 2 * (n / 2) + R.lead - 1) (length-drop R.lead ss)

-- Two blocks of a number below B × B.
in_blocks_below : (lead base j w : ℕ) → 1 ≤ base → (j + lead ≡ 0 → w < base) → w < base * base → AllByRecursion (λ x. x < base) (in_blocks lead base j w)
in_blocks_below zero base zero w b h k = (h refl, tt)
in_blocks_below (suc l) base zero w b h k = (mod-lt w b, ((div-lt_iff_lt-mul b).1 k, tt))
in_blocks_below lead base (suc j) w b h k = (mod-lt w b, ((div-lt_iff_lt-mul b).1 k, tt))

pub two_blocks : (lead base j w : ℕ) → 1 ≤ j + lead → in_blocks lead base j w ≡ (w % base) ∷ (w / base) ∷ []
two_blocks zero base zero w h = absurd (omega arith)
two_blocks (suc l) base zero w h = refl
two_blocks lead base (suc j) w h = refl

-- The symbols of a recording: their count, which less the lead is even, and their sizes.
pub record SymbolsFit (R : Ranges) (blocks : List ℕ) : Type 0 where
  pub many : length (symbols R blocks) ≡ length blocks + length (marks R (length blocks))
  pub some : 1 ≤ length (symbols R blocks)
  pub led : R.lead ≤ length (symbols R blocks)
  pub fewer : length (drop R.lead (symbols R blocks)) ≡ length (symbols R blocks) - R.lead
  pub even : (length (symbols R blocks) - R.lead) % 2 ≡ 0
  pub fits : length (symbols R blocks) ≤ R.lead + 2 * R.steps
  pub below : AllByRecursion (λ s. s < alphabet R) (drop R.lead (symbols R blocks))
  pub first_below : first_spill R.lead (symbols R blocks) < R.spill 0

module _ (R : Ranges) (law : Lawful R) where
  abbrev Below : List ℕ → Type 0
  Below = AllByRecursion (λ x. x < R.base)

  -- The number of a group with carrier and spill in range.
  number_below : (j r y : ℕ) → r < R.carrier j → y < R.spill j → r * R.spill j + y < R.carrier j * R.spill j
  number_below j r y h k = digits_lt {q = r} {m = R.carrier j} {r = y} {c = R.spill j} h k

  -- Group 0 with lead 0 is its carrier alone, and any other group fits into two blocks.
  single_below : (j r y : ℕ) → j + R.lead ≡ 0 → r < R.carrier j → y < R.spill j → r * R.spill j + y < R.base
  single_below zero r y e h k =
      let one = law.first_spill_alone (omega arith) in
      rw one (omega (arith, rw one at (number_below 0 r y h k), law.first_group_fits (omega arith)))
  single_below (suc j) r y e h k = absurd (omega arith)

  double_below : (j r y : ℕ) → j < R.steps → r < R.carrier j → y < R.spill j → r * R.spill j + y < R.base * R.base
  double_below j r y l h k =
      ⊎_elim
      (λ z. omega (arith, single_below j r y (omega arith) h k, mul-le-mul_right R.base law.base_low))
      (λ z. omega (arith, number_below j r y h k, law.group_fits j l z))
      (cases_lt (j + R.lead) 1)

  pub group_below : (j r y : ℕ) → j < R.steps → r < R.carrier j → y < R.spill j → Below (group R j r y)
  group_below j r y l h k =
      in_blocks_below R.lead R.base j (r * R.spill j + y) (omega arith)
      (λ e. single_below j r y e h k) (double_below j r y l h k)

  pub closing_below : (j y : ℕ) → j ≤ R.steps → 1 ≤ j + R.lead → y < R.spill j → Below (group R j 0 y)
  closing_below j y l h k =
      let top = (spill_there R law j l).1 in
      in_blocks_below R.lead R.base j (0 * R.spill j + y) (omega arith) (λ e. absurd (omega arith))
      (omega (arith, mul-le-mul_right R.base law.base_low))

  closed_below : (j y : ℕ) (ss : List ℕ) → AllByRecursion (λ s. s < alphabet R) ss → length ss % 2 ≡ 0 → 2 * j + length ss ≤ 2 * R.steps →
      1 ≤ j + length ss + R.lead → y < R.spill j → Below (closed R j y ss)
  closed_below j y [] v e l h k = closing_below j y (omega arith) (omega arith) k
  closed_below j y (s ∷ []) v e l h k = absurd (omega arith)
  closed_below j y (s ∷ t ∷ ss) v e l h k =
      let low = law.carrier_low j (omega arith) in
      each_append (λ x. x < R.base) (group R j (first_pass R j s t).0 y) (closed R (suc j) (first_pass R j s t).1 ss)
      (group_below j (first_pass R j s t).0 y (omega arith) (mod-lt _ (omega arith)) k)
      (closed_below (suc j) (first_pass R j s t).1 ss v.1.1 (omega arith) (omega arith) (omega arith)
      (spill_below R law j s t (omega arith) v.0 v.1.0))

  -- The symbols of a valid recording.
  pub symbols_below : (blocks : List ℕ) → Valid R blocks → AllByRecursion (λ s. s < alphabet R) (symbols R blocks)
  symbols_below blocks v =
      let m = marked R law.lead_high (length blocks) in
      each_append (λ s. s < alphabet R) blocks (marks R (length blocks))
      (blocks_are_symbols R law blocks v.below)
      (subst (AllByRecursion (λ s. s < alphabet R)) m.marks_are
      (each_take (λ s. s < alphabet R) (length (marks R (length blocks))) (end_mark R ∷ end_mark R ∷ []) (omega arith, (omega arith, tt))))

  pub symbols_fit : (blocks : List ℕ) → Valid R blocks → SymbolsFit R blocks
  symbols_fit blocks v =
      let m = marked R law.lead_high (length blocks) in
      let many = length-append blocks (marks R (length blocks)) in
      let all = symbols_below blocks v in
      record {
        many = many;
        some = omega arith;
        led = omega arith;
        fewer = length-drop R.lead (symbols R blocks);
        even = omega arith;
        fits = omega arith;
        below = each_drop (λ s. s < alphabet R) R.lead (symbols R blocks) all;
        first_below = first_below R law (symbols R blocks) all;
      }

  pub stream_shape : (blocks : List ℕ) → Valid R blocks → StreamShape R blocks
  stream_shape blocks v =
      let m = marked R law.lead_high (length blocks) in
      let f = symbols_fit blocks v in
      let ss = symbols R blocks in
      let d = drop R.lead ss in
      let k = (length ss - R.lead) / 2 in
      let w = 0 * R.spill k + spill_left R ss in
      let two = (w % R.base) ∷ (w / R.base) ∷ [] in
      let is : stream R blocks ≡ complete R ss ++ two =
      stream_is R blocks k refl ∙ ap (λ (bs : List ℕ). complete R ss ++ bs) (two_blocks R.lead R.base k w (omega arith)) in
      let front = complete_length R law.lead_high ss in
      let long : length (stream R blocks) ≡ length ss + 1 = ap length is ∙ length-append (complete R ss) two ∙ omega arith in
      let few : k ≤ R.steps = omega arith in
      let spill = last_spill_below R law 0 (first_spill R.lead ss) k d f.below f.first_below (omega arith) few in
      let small : w < 2 * R.base = omega (arith, (spill_there R law k few).1) in
      let some : 0 < R.base = omega arith in
      let last : w / R.base < 2 = (div-lt_iff_lt-mul some).1 small in
      record {
        long = long;
        two_or_three_more = ⊎_elim (λ h. inl (omega arith)) (λ h. inr (omega arith)) (cases_lt (length (marks R (length blocks))) 2);
        below = closed_below 0 (first_spill R.lead ss) d f.below (omega arith) (omega arith) (omega arith) f.first_below;
        last =
            subst (λ (n : ℕ). n ≤ 1)
            (sym (ap (λ (bs : List ℕ). get_or bs (length ss) 0) is
            ∙ ap (λ (n : ℕ). get_or (complete R ss ++ two) n 0) (omega arith)
            ∙ get_or-append-add (complete R ss) two 1 0))
            (omega arith);
      }
