-- The symbols of a recording, by their places.
use Rattle.std.proofs.Common.{◌≡◌, ℕ, ◌+◌, ◌-◌, ◌<◌, ◌≤◌, List, [], ◌∷◌, length, get_or, sym, refl, subst, ⊎_elim, arith}
use Rattle.std.proofs.lemmas.Bool.{cases_lt}
use Rattle.std.proofs.lemmas.List.{length-append, get_or_append_left, get_or-append_right, get_or-take}
use Rattle.schedule.proofs.Each.{each_at}
use Rattle.schedule.specs.Ranges.{Ranges, Lawful, end_mark}
use Rattle.writer.specs.Stream.{Valid, marks, symbols}
use Rattle.writer.proofs.Closing.{marked}

module _ (R : Ranges) (law : Lawful R) (xs : List ℕ) (v : Valid R xs) where
  abbrev n : ℕ
  n = length xs

  abbrev ss : List ℕ
  ss = symbols R xs

  pub is_block : (k : ℕ) → k < n → get_or ss k 0 ≡ get_or xs k 0
  is_block k h = get_or_append_left xs (marks R n) 0 k h

  pub block_below : (k : ℕ) → k < n → get_or ss k 0 < R.base
  block_below k h = subst (λ (x : ℕ). x < R.base) (sym (is_block k h)) (each_at (λ x. x < R.base) xs k 0 h v.below)

  pub is_mark : (k : ℕ) → n ≤ k → k < length ss → get_or ss k 0 ≡ end_mark R
  is_mark k h l =
      let m = marked R law.lead_high n in
      let same = m.marks_are in
      grind (arith, get_or-append_right xs (marks R n) n k 0 refl h, get_or-take (length (marks R n)) (end_mark R ∷ end_mark R ∷ []) (k - n) 0, length-append xs (marks R n))

  -- In a pair no mark stands before a block.
  pub in_order : (k : ℕ) → k + 1 < length ss → get_or ss k 0 ≡ end_mark R → get_or ss (k + 1) 0 ≡ end_mark R
  in_order k h e =
      ⊎_elim (λ l. absurd (omega (arith, block_below k l))) (λ l. is_mark (k + 1) (omega arith) h) (cases_lt k n)
