-- The number that leads some fields is the longest run of digits behind the first space.
use Rattle.std.proofs.Common.{◌≡◌, ℕ, ◌+◌, ◌<◌, ◌≤◌, ◌↔◌, List, [], ◌∷◌, ◌++◌, length, get_or, take, drop, sym, refl, ap, ◌∙◌, subst, inl, inr, arith}
use Rattle.std.specs.List.{AllByRecursion}
use Rattle.std.proofs.lemmas.List.{length-append, length-take-le, take-append-drop, get_or-take, get_or_append_left, get_or-append-add, take_at, drop_at}
use Rattle.std.proofs.lemmas.List.Elements.{All-from_recursion, recursion_from_All, All-get_or, All-from_get_or}
use Rattle.std.proofs.lemmas.Bool.{cases_order}
use Rattle.command.specs.Lines.{space, Digit, Numeral, Fields, value_after}

-- Fields begin with a space, so a digit does not lead them.
no_digit_leads : (ns bytes : List ℕ) → Fields ns bytes → 0 < length bytes → Digit (get_or bytes 0 0) → ⊥
no_digit_leads [] bytes e h d = omega (arith, ap length e)
no_digit_leads (n ∷ ns) bytes f h d =
    let e : get_or bytes 0 0 ≡ space = ap (λ (bs : List ℕ). get_or bs 0 0) f.4 in omega arith

module _ (text : List ℕ) (end : ℕ)
    (within : (end ≤ length text) × (end ≤ 9))
    (digits : (k : ℕ) → k < end → Digit (get_or text k 0))
    (stops : end < length text → end < 9 → Digit (get_or text end 0) → ⊥) where
  pub all_digits : AllByRecursion Digit (take end text)
  all_digits =
      recursion_from_All Digit (take end text)
      (All-from_get_or Digit (take end text) 0
      (λ k h. let l = length-take-le end text within.0 in
      let h : k < end = omega arith in
      subst Digit (sym (get_or-take end text k 0 h)) (digits k h)))

  -- A numeral that leads the text, with fields behind it, ends where the digits end.
  same_end : (n : ℕ) (ns numeral rest : List ℕ) → Numeral n numeral → Fields ns rest → text ≡ numeral ++ rest → length numeral ≡ end
  same_end n ns numeral rest is fields e =
      let l : length text ≡ length numeral + length rest = ap length e ∙ length-append numeral rest in
      elim (cases_order (length numeral) end) [
        | inl same ↦ same
        | inr apart ↦ absurd (elim apart [
          | inl short ↦
              no_digit_leads ns rest fields (omega arith)
              (subst Digit (ap (λ (bs : List ℕ). get_or bs (length numeral) 0) e ∙ subst (λ (m : ℕ). get_or (numeral ++ rest) m 0 ≡ get_or rest 0 0) (omega arith) (get_or-append-add numeral rest 0 0)) (digits (length numeral) short))
          | inr long ↦
              stops (omega arith) (omega (arith, is.few))
              (subst Digit (sym (ap (λ (bs : List ℕ). get_or bs end 0) e ∙ get_or_append_left numeral rest 0 end long)) (All-get_or Digit numeral end 0 long (All-from_recursion Digit numeral is.digits)))
        ])
      ]

  NumberFirst : List ℕ → Type 0
  NumberFirst ns = (more : List ℕ) × (ns ≡ value_after 0 (take end text) ∷ more) × Fields more (drop end text)

  forth : (ns : List ℕ) → Fields ns (space ∷ text) → NumberFirst ns
  unfolding NumberFirst
  forth [] f = absurd (omega (arith, ap length f))
  forth (n ∷ ns) f =
      let numeral = f.0 in
      let rest = f.1 in
      let e : text ≡ numeral ++ rest = ap (drop 1) f.4 in
      let same = same_end n ns numeral rest f.2 f.3 e in
      let t : take end text ≡ numeral = ap (take end) e ∙ take_at numeral rest end same in
      let d : drop end text ≡ rest = ap (drop end) e ∙ drop_at numeral rest end same in (
        ns,
        ap (λ (m : ℕ). m ∷ ns) (sym f.2.value ∙ ap (value_after 0) (sym t)),
        subst (Fields ns) (sym d) f.3,
      )

  back : 1 ≤ end → (ns : List ℕ) → NumberFirst ns → Fields ns (space ∷ text)
  unfolding NumberFirst
  back some ns p =
      subst (λ (ms : List ℕ). Fields ms (space ∷ text)) (sym p.1) (
        take end text,
        drop end text,
        record { digits = all_digits; some = omega (arith, length-take-le end text within.0); few = omega (arith, length-take-le end text within.0); value = refl },
        p.2,
        ap (λ (bs : List ℕ). space ∷ bs) (sym (take-append-drop end text)),
      )

  pub reads_number : 1 ≤ end → (ns : List ℕ) →
      Fields ns (space ∷ text) ↔ ((more : List ℕ) × (ns ≡ value_after 0 (take end text) ∷ more) × Fields more (drop end text))
  unfolding NumberFirst
  reads_number some ns = (forth ns, back some ns)

  pub reads_none : end ≡ 0 → (ns : List ℕ) → Fields ns (space ∷ text) → ⊥
  reads_none none [] f = omega (arith, ap length f)
  reads_none none (n ∷ ns) f =
      omega (arith, same_end n ns f.0 f.1 f.2 f.3 (ap (drop 1) f.4), f.2.some)
