-- Rows that are tried in order.
use Rattle.std.proofs.Common.{◌≡◌, ℕ, Bool, true, false, List, [], ◌∷◌, ◌++◌, Ok, Err, Result, sym, refl, ap, ◌∙◌}
use Rattle.schedule.specs.Faults.{judged}

-- No row holds.
abbrev pub Clear : List (ℕ × ℕ × Bool) → Type 0
Clear [] = Unit {0}
Clear (row ∷ rows) = (row.2 ≡ false) × Clear rows

-- An answer that is no refusal: no row held.
pub judged_clear : {X : Type 0} (rows : List (ℕ × ℕ × Bool)) (x y : X) → Ok y ≡ judged rows x → Clear rows × (y ≡ x)
judged_clear [] x y e = (tt, cc)
judged_clear {X} (row ∷ rows) x y e = go row.2 refl (judged_clear rows x y) e
  where
    go : (c : Bool) → row.2 ≡ c → (Ok y ≡ judged rows x → Clear rows × (y ≡ x)) →
        ◌≡◌ {A = Result X (ℕ × ℕ)} (Ok y) (elim c [ true ↦ Err (row.0, row.1) | false ↦ judged rows x ]) →
        ((row.2 ≡ false) × Clear rows) × (y ≡ x)
    go true e more f = absurd cc
    go false e more f = ((e, (more f).0), (more f).1)

pub clear_judged : {X : Type 0} (rows : List (ℕ × ℕ × Bool)) (x : X) → Clear rows → judged rows x ≡ Ok x
clear_judged [] x c = refl
clear_judged (row ∷ rows) x c = rw c.0 (clear_judged rows x c.1)

-- The answer does not go by what a call without refusal answers.
pub judged_as : {X Y : Type 0} (rows : List (ℕ × ℕ × Bool)) (x y : X) (a b : Y) → Ok y ≡ judged rows x → b ≡ a → Ok b ≡ judged rows a
judged_as rows x y a b e f = ap Ok f ∙ sym (clear_judged rows a (judged_clear rows x y e).0)

-- Rows behind others are tried where none of those holds.
pub clear_then : {X : Type 0} (rows more : List (ℕ × ℕ × Bool)) (x : X) → Clear rows → judged (rows ++ more) x ≡ judged more x
clear_then [] more x c = refl
clear_then (row ∷ rows) more x c = rw c.0 (clear_then rows more x c.1)
