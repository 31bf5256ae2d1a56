-- The text of each number of the refusal table, and of blocks, in ASCII.
use Rattle.std.specs.Prelude.{ℕ, cond, List, [], ◌∷◌, codes, ◌==◌}
use Rattle.std.specs.List.{flat_map}
use Rattle.std.specs.Fmt.{decimal}

-- The first text whose number is this one, and the empty text where there is none.
abbrev pub listed : ℕ → List (ℕ × List ℕ) → List ℕ
listed n [] = []
listed n (row ∷ rows) = cond (n == row.0) row.1 (listed n rows)

unfoldable pub text_of : ℕ → List ℕ
text_of n = listed n (
    (1, codes "width unknown")
    ∷ (10, codes "block too large")
    ∷ (11, codes "recording too long")
    ∷ (12, codes "buffer too short")
    ∷ (20, codes "block too large")
    ∷ (21, codes "carrier beyond range")
    ∷ (22, codes "pair beyond range")
    ∷ (23, codes "mark before block")
    ∷ (24, codes "closing not zero")
    ∷ (25, codes "no mark")
    ∷ (26, codes "cut short")
    ∷ (30, codes "no such place")
    ∷ (40, codes "width has no bytes")
    ∷ (41, codes "buffer too short")
    ∷ [])

-- Blocks as they are printed: each is a space and its decimal digits.
abbrev pub listing : List ℕ → List ℕ
listing blocks = flat_map (λ x. 32 ∷ decimal x) blocks
