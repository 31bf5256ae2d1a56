-- On the stream of a recording, a lookup answers its blocks and refuses every other place.
use Rattle.std.proofs.Common.{◌≡◌, ℕ, ◌+◌, ◌-◌, ◌*◌, ◌/◌, ◌%◌, ◌<◌, ◌≤◌, false, cond, eqb, ◌⊎◌, List, ◌∷◌, ◌++◌, length, get_or, take, drop, Ok, Err, Result, sym, refl, ap, ◌∙◌, inl, inr, ⊎_elim, arith}
use Rattle.std.proofs.lemmas.Bool.{cases_lt}
use Rattle.std.proofs.lemmas.Bool.Decides.{nat_tests}
use Rattle.std.proofs.lemmas.List.{length-take-le, length-drop, take-append-drop, drop_more, get_or-drop}
use Rattle.schedule.proofs.Each.{each_at, each_take}
use Rattle.schedule.specs.declared.fault.Fault.{Fault}
use Rattle.schedule.specs.Faults.{says, judged}
use Rattle.schedule.specs.Ranges.{Ranges, Lawful, alphabet, end_mark}
use Rattle.writer.specs.Stream.{Valid, symbols, first_spill, closed, stream}
use Rattle.writer.specs.Laws.{StreamShape}
use Rattle.writer.proofs.Shape.{SymbolsFit, symbols_fit, stream_shape}
use Rattle.access.specs.Lookup.{start, no_place, pair_symbol, pair_place_rows, lead_symbol, lead_place_rows, lookup_rows, symbol, LooksUp}
use Rattle.access.proofs.Symbols.{is_block, block_below, is_mark, in_order}
use Rattle.access.proofs.Finding.{found_at, pair_found, spill_first, lead_found}

-- There is such a place.
pub there : (R : Ranges) (xs : List ℕ) (p end : ℕ) → 1 ≤ p → p ≤ R.lead + 2 * R.steps → end ≤ length xs → no_place R xs p end ≡ false
there R xs p end h k l = grind (arith, nat_tests)

by_parity : (v s t : ℕ) (ss : List ℕ) (k q : ℕ) → s ≡ get_or ss k 0 → t ≡ get_or ss (k + 1) 0 → q ≡ k + v → v < 2 → cond (eqb v 0) s t ≡ get_or ss q 0
by_parity v s t ss k q e f g h = grind (arith, nat_tests)

from_says : (answer : Result ℕ Fault) (x : ℕ) → says answer ≡ Ok x → answer ≡ Ok x
from_says (Ok y) x e = cc
from_says (Err f) x e = cc

module _ (R : Ranges) (law : Lawful R) (xs : List ℕ) (v : Valid R xs) where
  abbrev n : ℕ
  n = length xs

  abbrev ss : List ℕ
  ss = symbols R xs

  abbrev whole : List ℕ
  whole = stream R xs

  abbrev y : ℕ
  y = first_spill R.lead ss

  abbrev d : List ℕ
  d = drop R.lead ss

  -- What the lookup of place p answers, and what it should.
  abbrev Answer : ℕ → Result ℕ (ℕ × ℕ)
  Answer p = judged (lookup_rows R whole p) (symbol R whole p)

  abbrev Shown : ℕ → Result ℕ (ℕ × ℕ)
  Shown p = found_at R p (get_or ss (p - 1) 0)

  fit : SymbolsFit R xs
  fit = symbols_fit R law xs v

  shape : StreamShape R xs
  shape = stream_shape R law xs v

  in_pair : (p i : ℕ) → R.lead < p → p ≤ length ss → i ≡ (p - 1 - R.lead) / 2 →
      judged (pair_place_rows R whole p i) (pair_symbol R whole p i) ≡ Shown p
  in_pair p i l h e =
      let f = fit in
      let g = shape in
      let k = 2 * i in
      let a : k < length d = omega arith in
      let b : k + 1 < length d = omega arith in
      let s = get_or d k 0 in
      let t = get_or d (k + 1) 0 in
      let rest = drop (k + 1 + 1) d in
      let s_is : s ≡ get_or ss (R.lead + k) 0 = get_or-drop R.lead ss k 0 in
      let t_is : t ≡ get_or ss (R.lead + k + 1) 0 = grind (arith, get_or-drop R.lead ss (k + 1) 0) in
      let parts : d ≡ take k d ++ s ∷ t ∷ rest = cc (take-append-drop k d, drop_more d k 0 a, drop_more d (k + 1) 0 b) in
      let long : length (take k d) ≡ k = length-take-le k d (omega arith) in
      let fits : 2 * i + length rest + 2 ≤ 2 * R.steps = omega (arith, length-drop (k + 1 + 1) d) in
      let order : s ≡ end_mark R → t ≡ end_mark R = λ e. t_is ∙ in_order R law xs v (R.lead + k) (omega arith) (sym s_is ∙ e) in
      pair_found R law i y s t (take k d) rest long fits f.first_below (each_take (λ x. x < alphabet R) k d f.below)
      (each_at (λ x. x < alphabet R) d k 0 a f.below) (each_at (λ x. x < alphabet R) d (k + 1) 0 b f.below) order
      whole (ap (closed R 0 y) parts) g.below p (there R whole p (start R (i + 2)) (omega arith) (omega arith) (omega arith))
      ∙ ap (found_at R p) (by_parity ((p - 1 - R.lead) % 2) s t ss (R.lead + k) (p - 1) s_is t_is (omega arith) (omega arith))

  in_lead : (p : ℕ) → 1 ≤ p → p ≤ R.lead → judged (lead_place_rows R whole p) (lead_symbol R whole) ≡ Shown p
  in_lead p l h =
      let f = fit in
      let g = shape in
      let one : R.lead ≡ 1 = omega arith in
      lead_found R law one y d (omega arith) f.first_below whole refl g.below p (there R whole p 2 l (omega arith) (omega arith))
      ∙ ap (found_at R p) (spill_first R.lead ss (omega arith) ∙ ap (λ (k : ℕ). get_or ss k 0) (omega arith))

  answers_shown : (p : ℕ) → 1 ≤ p → p ≤ length ss → Answer p ≡ Shown p
  answers_shown p l h = grind (arith, nat_tests, in_pair p ((p - 1 - R.lead) / 2), in_lead p)

  -- Beyond the symbols there is no place.
  beyond : (p : ℕ) → (p ≡ 0) ⊎ (length ss < p) → Answer p ≡ Err (30, p)
  beyond p h =
      let f = fit in
      let g = shape in
      grind (arith, nat_tests)

  block_answered : (p : ℕ) → 1 ≤ p → p ≤ n → Answer p ≡ Ok (get_or xs (p - 1) 0)
  block_answered p l h =
      let f = fit in
      grind (arith, nat_tests, answers_shown p, block_below R law xs v (p - 1), is_block R law xs v (p - 1))

  mark_refused : (p : ℕ) → n < p → p ≤ length ss → Answer p ≡ Err (30, p)
  mark_refused p l h = grind (arith, nat_tests, answers_shown p, is_mark R law xs v (p - 1))

  other_refused : (p : ℕ) → (p ≡ 0) ⊎ (n < p) → Answer p ≡ Err (30, p)
  other_refused p h =
      ⊎_elim (λ e. beyond p (inl e)) (λ l. ⊎_elim (λ k. beyond p (inr k)) (mark_refused p l) (cases_lt (length ss) p)) h

-- The first clause of a lookup, and that the second follows from it.
abbrev pub Answers : Ranges → List ℕ → ℕ → Result ℕ Fault → Type 0
Answers R blocks p answer = says answer ≡ judged (lookup_rows R blocks p) (symbol R blocks p)

pub law_holds : (R : Ranges) → Lawful R → (blocks : List ℕ) (p : ℕ) (answer : Result ℕ Fault) →
    Answers R blocks p answer → LooksUp R blocks p answer
law_holds R law blocks p answer e xs v is =
    let same = e ∙ ap (λ (bs : List ℕ). judged (lookup_rows R bs p) (symbol R bs p)) is in
    (λ l h. from_says answer (get_or xs (p - 1) 0) (same ∙ block_answered R law xs v p l h), λ h. same ∙ other_refused R law xs v p h)
