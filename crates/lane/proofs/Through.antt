-- A reader takes a whole stream, and hands its recording over.
use Rattle.std.proofs.Common.{◌≡◌, ℕ, zero, suc, ◌+◌, ◌*◌, ◌/◌, ◌%◌, ◌<◌, ◌≤◌, Bool, true, false, ◌||◌, eqb, ◌⊎◌, List, [], ◌∷◌, ◌++◌, length, get_or, drop, Some, None, Ok, Option, sym, refl, ap, ◌∙◌, subst, inl, inr, append_assoc, append-nil, mod-lt, div-add-mod', arith}
use lib.Arith.{digits_div, digits_mod}
use Rattle.std.specs.List.{AllByRecursion}
use Rattle.std.proofs.lemmas.Bool.{lt-leb, eq-eqb, ne_eqb, or_right, true≢false, false≢true}
use Rattle.schedule.specs.Ranges.{Ranges, Lawful, alphabet, end_mark}
use Rattle.schedule.specs.Faults.{judged}
use Rattle.schedule.proofs.Judged.{judged_clear}
use Rattle.schedule.proofs.Sizes.{by_lead}
use Rattle.writer.specs.Stream.{Valid, marks, symbols, first_pass, in_blocks, closed, stream}
use Rattle.writer.specs.Passes.{pair_number, pair_of}
use Rattle.writer.proofs.Inverse.{passes_taken_back, spill_below}
use Rattle.writer.proofs.Closing.{first_mark, symbols_lone}
use Rattle.writer.proofs.Shape.{group_below, closing_below, symbols_fit}
use Rattle.writer.proofs.Unique.{Ended, stream_at, tail_ended}
use Rattle.reader.specs.declared.reading.Reading.{Reading}
use Rattle.reader.specs.Back.{limit, pair_rows}
use Rattle.reader.specs.Reading.{completes, lead_symbol, until_mark, hands_over, started}
use Rattle.reader.specs.Calls.{whole_rows, whole_brings, after_group, after_whole}
use Rattle.reader.proofs.Naming.{group_answer, take_answer}
use Rattle.reader.proofs.Pairs.{passes_answer}
use Rattle.reader.proofs.Limits.{below_limit, zero_below_limit}
use Rattle.reader.proofs.Taking.{reader_at, group_judged}

-- The reader after block b, which brings an end or none.
abbrev pub next : Ranges → Reading → ℕ → Bool → Reading
next R g b = after_whole R g b (completes R.lead R.base g.step g.low b)

-- Taking these blocks one after another is accepted, brings the rest of the recording xs, and ends with the last block.
abbrev pub Accepts : Ranges → Reading → List ℕ → List ℕ → List ℕ → Type 0
Accepts R g since [] xs = ⊥
Accepts R g since (b ∷ bs) xs =
    (x : List ℕ × Bool) × (take_answer R g b ≡ Ok x)
    × elim x.1 [
      | true ↦ (bs ≡ []) × (xs ≡ since ++ x.0) × (next R g b true ≡ started)
      | false ↦ Accepts R (next R g b false) (since ++ x.0) bs xs
    ]

-- What is left to accept behind a block that brings x.
abbrev pub Left : Ranges → (Bool → Reading) → List ℕ × Bool → (since bs xs : List ℕ) → Type 0
Left R then x since bs xs =
    elim x.1 as (λ (_ : Bool). Type 0) [
      | true ↦ (bs ≡ []) × (xs ≡ since ++ x.0) × (then true ≡ started)
      | false ↦ Accepts R (then false) (since ++ x.0) bs xs
    ]

-- A group is one block, which completes it, or two, of which the first does not.
one_or_two : (lead base j w : ℕ) →
    ((in_blocks lead base j w ≡ w ∷ []) × (completes lead base j None w ≡ Some w))
    ⊎ ((in_blocks lead base j w ≡ (w % base) ∷ (w / base) ∷ []) × (completes lead base j None (w % base) ≡ None))
one_or_two zero base zero w = inl (refl, refl)
one_or_two (suc l) base zero w = inr (refl, refl)
one_or_two lead base (suc j) w = inr (refl, refl)

module _ (R : Ranges) where
  abbrev m : ℕ
  m = end_mark R

  -- A block, by the group that it completes or not.
  block_taken : (g : Reading) (b : ℕ) (o : Option ℕ) (x : List ℕ × Bool) (since bs xs : List ℕ) → b < R.base →
      completes R.lead R.base g.step g.low b ≡ o → judged (whole_rows R g o) (whole_brings R g o) ≡ Ok x →
      Left R (after_whole R g b o) x since bs xs → Accepts R g since (b ∷ bs) xs
  block_taken g b o x since bs xs h e f more = (
    x,
    rw (lt-leb R.base b h) (subst (λ (p : Option ℕ). judged (whole_rows R g p) (whole_brings R g p) ≡ Ok x) (sym e) f),
    subst (λ (p : Option ℕ). Left R (after_whole R g b p) x since bs xs) (sym e) more,
  )

  -- Group j of the number w, after the carrier `before`.
  group_taken : (n j before w : ℕ) (x : List ℕ × Bool) (since rest xs : List ℕ) → AllByRecursion (λ b. b < R.base) (in_blocks R.lead R.base j w) →
      ((p : ℕ) → group_answer R p j before w ≡ Ok x) →
      ((c : ℕ) → Left R (after_group R (reader_at c j before None) w) x since rest xs) →
      Accepts R (reader_at n j before None) since (in_blocks R.lead R.base j w ++ rest) xs
  group_taken n j before w x since rest xs below a more =
      let g = reader_at n j before None in
      elim (one_or_two R.lead R.base j w) [
        | inl o ↦
            let b = subst (AllByRecursion (λ b. b < R.base)) o.0 below in
            subst (λ (bs : List ℕ). Accepts R g since (bs ++ rest) xs) (sym o.0)
            (block_taken g w (Some w) x since rest xs b.0 o.1 (a n) (more n))
        | inr o ↦
            let b = subst (AllByRecursion (λ b. b < R.base)) o.0 below in
            let g' = reader_at (n + 1) j before (Some (w % R.base)) in
            subst (λ (bs : List ℕ). Accepts R g since (bs ++ rest) xs) (sym o.0)
            (block_taken g (w % R.base) None ([], false) since (w / R.base ∷ rest) xs b.0 o.1 refl
            (subst (λ (zs : List ℕ). Accepts R g' zs (w / R.base ∷ rest) xs) (sym (append-nil since))
            (block_taken g' (w / R.base) (Some w) x since rest xs b.1.0 (ap Some (div-add-mod' w R.base)) (a (n + 1)) (more (n + 1)))))
      ]

  -- Blocks are no marks, so they are handed over.
  no_mark : (x : ℕ) → x < R.base → eqb x m ≡ false
  no_mark x h = ne_eqb x m (λ e. omega arith)

  until_block : (x : ℕ) (ss : List ℕ) → x < R.base → until_mark m (x ∷ ss) ≡ x ∷ until_mark m ss
  until_block x ss h = rw (no_mark x h) refl

  until_marks : (xs : List ℕ) (n : ℕ) → AllByRecursion (λ x. x < R.base) xs → until_mark m (xs ++ marks R n) ≡ xs
  until_marks [] n b = ap (until_mark m) (first_mark R n).1 ∙ rw (eq-eqb m m refl) refl
  until_marks (x ∷ xs) n b = until_block x (xs ++ marks R n) b.0 ∙ ap (λ (ys : List ℕ). x ∷ ys) (until_marks xs n b.1)

  -- Two blocks, and the stream goes on; and the last pair.
  two_brought : (s t : ℕ) → s < R.base → t < R.base → hands_over R (s ∷ t ∷ []) ≡ (s ∷ t ∷ [], false)
  two_brought s t h k = rw (no_mark s h, no_mark t k) refl

  end_brought : (s t : ℕ) → t ≡ m → hands_over R (s ∷ t ∷ []) ≡ (until_mark m (s ∷ t ∷ []), true)
  end_brought s t e =
      ap (λ (b : Bool). (until_mark m (s ∷ t ∷ []), b)) (or_right (eqb s m) (eqb t m || false) (ap (λ (b : Bool). b || false) (eq-eqb t m e)))

module _ (R : Ranges) (law : Lawful R) where
  -- Group i + 1 of the carrier r, behind the pair (s, t); and group 0 of the carrier r and the spill y.
  pub pair_answers : (i r s t p : ℕ) (x : List ℕ × Bool) → i < R.steps → s < alphabet R → t < alphabet R → r < limit R (suc i) →
      (s ≡ m R → t ≡ m R) → hands_over R (s ∷ t ∷ []) ≡ x → (x.1 ≡ true → r ≡ 0) → (x.1 ≡ false → suc i < R.steps) →
      group_answer R p (suc i) (first_pass R i s t).0 (r * R.spill (suc i) + (first_pass R i s t).1) ≡ Ok x
  pair_answers i r s t p x l hs ht hr order is ends goes_on =
      let spill = spill_below R law i s t l hs ht in
      let quotient = digits_div r spill in
      let rest = digits_mod r spill in
      let pair = (passes_taken_back R).first i s t l hs ht in
      let z = pair_number R i (first_pass R i s t).0 (first_pass R i s t).1 in
      group_judged R p (suc i) (first_pass R i s t).0 (r * R.spill (suc i) + (first_pass R i s t).1) x
      (sym (rw rest (ap (λ (q : ℕ × ℕ). hands_over R (q.0 ∷ q.1 ∷ [])) pair ∙ is))) (rw quotient hr)
      (rw rest (judged_clear (pair_rows R p z) (pair_of R z) (s, t) (sym ((passes_answer R).first p i s t l hs ht order))).0) (λ e. quotient ∙ ends e) goes_on

  lead_answers : (r y p : ℕ) (x : List ℕ × Bool) → y < R.spill 0 → r < limit R 0 → hands_over R (lead_symbol R.lead y) ≡ x →
      (x.1 ≡ true → r ≡ 0) → group_answer R p 0 0 (r * R.spill 0 + y) ≡ Ok x
  lead_answers r y p x hy hr is ends =
      let quotient = digits_div r hy in
      group_judged R p 0 0 (r * R.spill 0 + y) x (sym (rw (digits_mod r hy) is)) (rw quotient hr) tt (λ e. quotient ∙ ends e)
      (λ _. omega (arith, law.steps_low))

  -- The closing group, which makes the last symbols known; and a group whose carrier is that of the pair (s, t).
  closing_taken : (n j before y : ℕ) (ys since : List ℕ) → j ≤ R.steps → 1 ≤ j + R.lead → y < R.spill j →
      ((p : ℕ) → 0 < limit R j → group_answer R p j before (0 * R.spill j + y) ≡ Ok (ys, true)) →
      Accepts R (reader_at n j before None) since (closed R j y []) (since ++ ys)
  closing_taken n j before y ys since l h k a =
      subst (λ (bs : List ℕ). Accepts R (reader_at n j before None) since bs (since ++ ys)) (append-nil (closed R j y []))
      (group_taken R n j before (0 * R.spill j + y) (ys, true) since [] (since ++ ys) (closing_below R law j y l h k)
      (λ p. a p (zero_below_limit R law j l)) (λ c. (refl, refl, refl)))

  pair_taken : (n j before y s t : ℕ) (ys since ss xs : List ℕ) → j < R.steps → y < R.spill j →
      ((r p : ℕ) → r < limit R j → group_answer R p j before (r * R.spill j + y) ≡ Ok (ys, false)) →
      ((c : ℕ) → Accepts R (reader_at c (suc j) (first_pass R j s t).0 None) (since ++ ys) (closed R (suc j) (first_pass R j s t).1 ss) xs) →
      Accepts R (reader_at n j before None) since (closed R j y (s ∷ t ∷ ss)) xs
  pair_taken n j before y s t ys since ss xs l k a more =
      let r = (first_pass R j s t).0 in
      let rest = closed R (suc j) (first_pass R j s t).1 ss in
      let carrier : r < R.carrier j = mod-lt _ (omega (arith, law.carrier_low j l)) in
      group_taken R n j before (r * R.spill j + y) (ys, false) since rest xs (group_below R law j r y l carrier k)
      (λ p. a r p (below_limit R law j r l carrier))
      (λ c. subst (λ (q : ℕ). Accepts R (reader_at (c + 1) (suc j) q None) (since ++ ys) rest xs) (sym (digits_div r k)) (more (c + 1)))

  -- From a group's carrier on to the end.
  through : (ss : List ℕ) (n j s t : ℕ) (since : List ℕ) → Ended (m R) (s ∷ t ∷ ss) → 2 * suc j + length ss ≤ 2 * R.steps →
      Accepts R (reader_at n (suc j) (first_pass R j s t).0 None) since (closed R (suc j) (first_pass R j s t).1 ss)
      (since ++ until_mark (m R) (s ∷ t ∷ ss))
  through [] n j s t since v h =
      let l : j < R.steps = omega arith in
      let hs : s < alphabet R = omega (arith, v.0) in
      let ht : t < alphabet R = omega (arith, v.1) in
      closing_taken n (suc j) _ _ (until_mark (m R) (s ∷ t ∷ [])) since l (omega arith) (spill_below R law j s t l hs ht)
      (λ p hr. pair_answers j 0 s t p _ l hs ht hr (λ _. v.1) (end_brought R s t v.1) (λ _. refl) (λ f. absurd (true≢false f)))
  through (s' ∷ []) n j s t since v h = absurd v.2
  through (s' ∷ t' ∷ ss) n j s t since v h =
      let l : suc j < R.steps = omega arith in
      let hs : s < alphabet R = omega (arith, v.0) in
      let ht : t < alphabet R = omega (arith, v.1) in
      let more = until_mark (m R) (s' ∷ t' ∷ ss) in
      let same : (since ++ s ∷ t ∷ []) ++ more ≡ since ++ until_mark (m R) (s ∷ t ∷ s' ∷ t' ∷ ss) =
      append_assoc since (s ∷ t ∷ []) more ∙ ap (λ (bs : List ℕ). since ++ bs) (sym (rw (no_mark R s v.0, no_mark R t v.1) refl)) in
      pair_taken n (suc j) _ _ s' t' (s ∷ t ∷ []) since ss _ l (spill_below R law j s t (omega arith) hs ht)
      (λ r p hr. pair_answers j r s t p _ (omega arith) hs ht hr (λ e. absurd (omega (arith, v.0))) (two_brought R s t v.0 v.1)
      (λ f. absurd (false≢true f)) (λ _. l))
      (λ c. subst (Accepts R _ _ _) same (through ss c (suc j) s' t' (since ++ s ∷ t ∷ []) v.2 (omega arith)))

  -- A stream from its first group on, where the leading symbol is no mark.
  from_start : (ss : List ℕ) (y : ℕ) (ys : List ℕ) → Ended (m R) ss → length ss ≤ 2 * R.steps → y < R.spill 0 →
      hands_over R (lead_symbol R.lead y) ≡ (ys, false) → Accepts R started [] (closed R 0 y ss) (ys ++ until_mark (m R) ss)
  from_start [] y ys v h hy is = absurd v
  from_start (s ∷ []) y ys v h hy is = absurd v
  from_start (s ∷ t ∷ ss) y ys v h hy is =
      pair_taken 0 0 0 y s t ys [] ss _ (omega arith) hy (λ r p hr. lead_answers r y p _ hy hr is (λ f. absurd (false≢true f)))
      (λ c. through ss c 0 s t ys v (omega arith))

  abbrev Accepted : ℕ → Type 0
  Accepted l = (xs : List ℕ) → Valid R xs → Accepts R started [] (stream_at R law l xs) xs

  accepted_alone : R.lead ≡ 0 → Accepted 0
  accepted_alone e xs v =
      subst (Accepts R started [] (closed R 0 0 (symbols R xs))) (until_marks R xs (length xs) v.below)
      (from_start (symbols R xs) 0 [] (tail_ended R law xs (length xs) v.below (omega arith)) (omega (arith, (symbols_fit R law xs v).fits))
      (omega (arith, law.first_spill_alone e)) (ap (λ (l : ℕ). hands_over R (lead_symbol l 0)) e))

  accepted_led : R.lead ≡ 1 → Accepted 1
  accepted_led e [] v =
      let top : m R < R.spill 0 = omega (arith, law.first_spill_lead e) in
      subst (λ (ss : List ℕ). Accepts R started [] (closed R 0 (get_or ss 0 0) (drop 1 ss)) []) (sym (symbols_lone R e))
      (closing_taken 0 0 0 (m R) [] [] (omega arith) (omega arith) top
      (λ p hr. lead_answers 0 (m R) p _ top hr (ap (λ (l : ℕ). hands_over R (lead_symbol l (m R))) e ∙ rw (eq-eqb (m R) (m R) refl) refl) (λ _. refl)))
  accepted_led e (x ∷ xs) v =
      let n = length (x ∷ xs) in
      subst (Accepts R started [] (closed R 0 x (xs ++ marks R n))) (ap (λ (ys : List ℕ). x ∷ ys) (until_marks R xs n v.below.1))
      (from_start (xs ++ marks R n) x (x ∷ []) (tail_ended R law xs n v.below.1 (omega arith))
      (omega (arith, (symbols_fit R law (x ∷ xs) v).fits)) (omega (arith, law.first_spill_lead e, v.below.0))
      (ap (λ (l : ℕ). hands_over R (lead_symbol l x)) e ∙ rw (no_mark R x v.below.0) refl))

  pub stream_accepted : (xs : List ℕ) → Valid R xs → Accepts R started [] (stream R xs) xs
  stream_accepted = by_lead Accepted R law accepted_alone accepted_led
