-- How far the blocks before the first that is too large reach.
use Rattle.std.proofs.Common.{◌≡◌, ℕ, ◌<◌, ◌≤◌, leb, List, [], ◌∷◌, length, refl, inl, inr, arith}
use Rattle.std.specs.List.{AllByRecursion, position}
use Rattle.std.specs.Option.{unwrap_or}
use Rattle.std.proofs.lemmas.Bool.Decides.{nat_tests, leb_tells}
use Rattle.writer.specs.Calls.{front_below}

-- The place of the first that is too large, or the length where there is none.
pub front_position : (base : ℕ) (piece : List ℕ) → unwrap_or (position (leb base) piece) (length piece) ≡ front_below base piece
front_position base [] = refl
front_position base (x ∷ xs) = grind (arith, nat_tests, front_position base xs)

-- Where every block is below the base, none stops the count; and where none does, every block is below.
pub front_all : (base : ℕ) (piece : List ℕ) → AllByRecursion (λ x. x < base) piece → front_below base piece ≡ length piece
front_all base [] b = refl
front_all base (x ∷ xs) b = let h = b.0 in grind (arith, nat_tests, front_all base xs b.1)

pub all_below : (base : ℕ) (piece : List ℕ) → length piece ≤ front_below base piece → AllByRecursion (λ x. x < base) piece
all_below base [] h = tt
all_below base (x ∷ xs) h =
    elim (leb_tells base x) [
      | inl t ↦ absurd (omega (arith, rw t.0 at h))
      | inr t ↦ (t.1, all_below base xs (omega (arith, rw t.0 at h)))
    ]
