-- What a lookup finds in the stream of a recording.
use Rattle.std.proofs.Common.{◌≡◌, ℕ, zero, suc, ◌+◌, ◌-◌, ◌*◌, ◌%◌, ◌<◌, ◌≤◌, false, cond, eqb, ltb, List, ◌∷◌, ◌++◌, length, get_or, take, drop, Result, refl, ap, ◌∙◌, mod-lt, div-add-mod', arith}
use Rattle.std.specs.List.{AllByRecursion}
use Rattle.std.proofs.lemmas.Bool.Decides.{nat_tests}
use Rattle.schedule.proofs.Each.{each_drop, each_take}
use Rattle.schedule.specs.Faults.{judged}
use Rattle.schedule.specs.Ranges.{Ranges, Lawful, alphabet, end_mark}
use Rattle.writer.specs.Stream.{first_spill, first_pass, closed}
use Rattle.writer.specs.Holding.{last_spill}
use Rattle.writer.specs.Calls.{front_below}
use Rattle.writer.proofs.Fronts.{front_all}
use Rattle.writer.proofs.Inverse.{spill_below}
use Rattle.writer.proofs.Shape.{two_blocks}
use Rattle.writer.proofs.Opening.{last_spill_below}
use Rattle.reader.proofs.Limits.{below_limit}
use Rattle.reader.proofs.Pairs.{passes_answer}
use Rattle.access.specs.Lookup.{start, part, earlier, later, no_place, mark_rows, pair_symbol, pair_place_rows, lead_symbol, lead_place_rows}
use Rattle.access.proofs.Middle.{Headed, headed, head, earlier_number, later_number}

-- The answer where the symbol x stands at place p.
abbrev pub found_at : Ranges → ℕ → ℕ → Result ℕ (ℕ × ℕ)
found_at R p x = judged (mark_rows R p x) x

none_too_large : (R : Ranges) (xs : List ℕ) → AllByRecursion (λ x. x < R.base) xs → ltb (front_below R.base xs) (length xs) ≡ false
none_too_large R xs a = grind (arith, nat_tests, front_all R.base xs a)

-- The pair (s, t), behind the symbols xs.
module _ (R : Ranges) (law : Lawful R) (i y s t : ℕ) (xs rest : List ℕ) (long : length xs ≡ 2 * i) (fits : 2 * i + length rest + 2 ≤ 2 * R.steps)
    (hy : y < R.spill 0) (hxs : AllByRecursion (λ x. x < alphabet R) xs) (hs : s < alphabet R) (ht : t < alphabet R)
    (order : s ≡ end_mark R → t ≡ end_mark R)
    (blocks : List ℕ) (is : blocks ≡ closed R 0 y (xs ++ s ∷ t ∷ rest)) (below : AllByRecursion (λ x. x < R.base) blocks) where
  abbrev here : List ℕ
  here = part R blocks i

  pub pair_found : (p : ℕ) → no_place R blocks p (start R (i + 2)) ≡ false →
      judged (pair_place_rows R blocks p i) (pair_symbol R blocks p i) ≡ found_at R p (cond (eqb ((p - 1 - R.lead) % 2) 0) s t)
  pair_found p n =
      let answers = passes_answer R in
      let next = head R law i y s t xs rest long fits in
      let low = law.carrier_low i (omega arith) in
      let early = answers.second (start R i + length here - 3) i (first_pass R i s t).0 (last_spill R 0 y xs) (omega arith)
      (below_limit R law i (first_pass R i s t).0 (omega arith) (mod-lt _ (omega arith)))
      (last_spill_below R law 0 y i xs hxs hy (omega arith) (omega arith)) in
      let late = answers.second (start R i + length here - 1) (suc i) next.carrier (first_pass R i s t).1 (omega arith) next.below
      (spill_below R law i s t (omega arith) hs ht) in
      let pair = answers.first (start R i + length here - 1) i s t (omega arith) hs ht order in
      let earlier_is = ap (λ (bs : List ℕ). earlier R (part R bs i)) is ∙ earlier_number R law i y s t xs rest long fits in
      let later_is = ap (λ (bs : List ℕ). later R (part R bs i)) is ∙ later_number R law i y s t xs rest long fits in
      let blocks_below = each_take (λ x. x < R.base) (start R (i + 2) - start R i) (drop (start R i) blocks)
      (each_drop (λ x. x < R.base) (start R i) blocks below) in
      let fitting = none_too_large R here blocks_below in
      grind (arith, nat_tests)

pub spill_first : (lead : ℕ) (ss : List ℕ) → 1 ≤ lead → first_spill lead ss ≡ get_or ss 0 0
spill_first zero ss h = absurd (omega arith)
spill_first (suc l) ss h = refl

-- The first symbol, with lead 1.
module _ (R : Ranges) (law : Lawful R) (one : R.lead ≡ 1) (y : ℕ) (zs : List ℕ) (fits : length zs ≤ 2 * R.steps) (hy : y < R.spill 0)
    (blocks : List ℕ) (is : blocks ≡ closed R 0 y zs) (below : AllByRecursion (λ x. x < R.base) blocks) where
  abbrev front : Headed R 0 y zs
  front = headed R law 0 y zs (omega arith)

  pub lead_found : (p : ℕ) → no_place R blocks p 2 ≡ false → judged (lead_place_rows R blocks p) (lead_symbol R blocks) ≡ found_at R p y
  lead_found p n =
      let v = front.carrier * R.spill 0 + y in
      let number : later R (take 2 blocks) ≡ v =
      ap (λ (bs : List ℕ). later R (take 2 bs)) (is ∙ front.is)
      ∙ ap (λ (bs : List ℕ). later R (take 2 (bs ++ front.rest))) (two_blocks R.lead R.base 0 v (omega arith))
      ∙ div-add-mod' v R.base in
      let answer = (passes_answer R).second 1 0 front.carrier y (omega arith) front.below hy in
      let fitting = none_too_large R (take 2 blocks) (each_take (λ x. x < R.base) 2 blocks below) in
      grind (arith, nat_tests)
