-- The block of a chunk, by its place in the bytes and by the code's shifts.
use Rattle.std.proofs.Common.{◌≡◌, ℕ, zero, suc, ◌+◌, ◌-◌, ◌*◌, ◌%◌, ◌^◌, ◌<◌, ◌≤◌, ◌≢◌, min, List, [], ◌∷◌, ◌++◌, length, drop, reverse, get_or, fold, cond, nat_lt, bit_or, refl, sym, ap, ◌∙◌, inl, inr, arith, below_more, set, length-set, get_or-set_other, get_or-set_same, get_or-drop, length-drop, add-one, suc-mul, le-div_iff_mul-le}
use native.Mathlib.Nat.{pow-le-pow_right}
use Rattle.std.proofs.lemmas.Bool.{cases_lt}
use Rattle.std.proofs.lemmas.Bool.Decides.{nat_tests}
use Rattle.std.proofs.lemmas.List.{get_or_append_left, reverse-append, drop_at, drop_min, drop-drop}
use Rattle.std.proofs.lemmas.List.Sums.{fold_push}
use Rattle.std.proofs.lemmas.Nat.{or_shifted}
use Rattle.content.specs.Bytes.{byte_at, number_from, block_at, blocks_of, Packed}

-- Equal filled bytes make equal numbers.
number_from-same : (n p q : ℕ) (xs ys : List ℕ) → ((k i j : ℕ) → k < n → i ≡ p + k → j ≡ q + k → byte_at xs i ≡ byte_at ys j)
    → number_from n xs p ≡ number_from n ys q
number_from-same zero p q xs ys same = refl
number_from-same (suc n) p q xs ys same =
    let here = same 0 p q (omega arith) (omega arith) (omega arith) in
    let rest = number_from-same n (p + 1) (q + 1) xs ys (λ k i j inside at_i at_j. same (k + 1) i j (omega arith) (omega arith) (omega arith)) in
    cc

-- A chunk's filled bytes are those of all bytes, from its place on.
byte_at-chunk : (size at k j : ℕ) (bytes chunk rest : List ℕ) → drop at bytes ≡ chunk ++ rest → length chunk ≡ min size (length bytes - at)
    → at < length bytes → k < size → j ≡ at + k → byte_at chunk k ≡ byte_at bytes j
byte_at-chunk size at k j bytes chunk rest parts len some inside place =
    let here = get_or_append_left chunk rest 0 k in
    let there = get_or-drop at bytes k 0 in
    grind (arith, nat_tests)

-- A chunk's block is the bytes' block at its place.
block_at-chunk : (size i : ℕ) (bytes chunk rest : List ℕ) → drop (i * size) bytes ≡ chunk ++ rest
    → length chunk ≡ min size (length bytes - i * size) → i * size < length bytes → number_from size chunk 0 ≡ block_at size bytes i
block_at-chunk size i bytes chunk rest parts len some =
    number_from-same size 0 (i * size) chunk bytes
    (λ k m j inside at_m at_j. let same : m ≡ k = omega arith in rw same (byte_at-chunk size (i * size) k j bytes chunk rest parts len some inside at_j))

-- Chunk i of the bytes, cut off what is left of them.
pub record IsChunkAt (size i : ℕ) (bytes chunk rest : List ℕ) : Type 0 where
  pub block : number_from size chunk 0 ≡ block_at size bytes i
  pub next : rest ≡ drop ((i + 1) * size) bytes
  pub counted : i < blocks_of size (length bytes)

pub IsChunkAt-cut : (size i : ℕ) (bytes left chunk rest : List ℕ) → 1 ≤ size → left ≡ drop (i * size) bytes → left ≡ chunk ++ rest
    → length chunk ≡ min size (length left) → 0 < length left → IsChunkAt size i bytes chunk rest
IsChunkAt-cut size i bytes left chunk rest one from parts len some =
    let long : length left ≡ length bytes - i * size = ap length from ∙ length-drop (i * size) bytes in
    let ends : (i + 1) * size ≡ i * size + size = rw add-one (suc-mul i size) in
    record {
      block = block_at-chunk size i bytes chunk rest (sym from ∙ parts) (rw long at len) (omega arith);
      next = rw (ends, ← drop-drop, ← from, ← drop_min size left, ← len, parts) (sym (drop_at chunk rest (length chunk) refl));
      counted = (le-div_iff_mul-le one).1 (omega (arith, suc-mul i size));
    }

-- One more block of a packing.
pub Packed-more : (size n block : ℕ) (bytes before after : List ℕ) → Packed size n bytes before after → n < length after → block ≡ block_at size bytes n
    → Packed size (n + 1) bytes before (set after n block)
Packed-more size n block bytes before after packed room is = record {
  same_length = length-set after n block ∙ packed.same_length;
  front =
      below_more _ _ (λ k h. let other : k ≢ n = omega arith in rw get_or-set_other (packed.front k h))
      (rw get_or-set_same is);
  rest = λ k h. let other : k ≢ n = omega arith in rw get_or-set_other (packed.rest k (omega arith));
}

-- No bytes are left past the last block.
pub blocks_of-reached : (size i count : ℕ) → 1 ≤ size → count ≤ i * size → i ≤ blocks_of size count → i ≡ blocks_of size count
blocks_of-reached size i count one past within =
    elim (cases_lt i (blocks_of size count)) [
      | inl more ↦ let ends : suc i * size ≤ count + (size - 1) = (le-div_iff_mul-le one).0 more in absurd (omega (arith, suc-mul i size))
      | inr most ↦ omega arith
    ]

-- One more byte below a block, as the code shifts it in.
abbrev pub shift_in : ℕ → ℕ → ℕ
shift_in block byte = bit_or (block * 2 ^ 8 % 2 ^ 64) byte

shift_in-add : (n block byte : ℕ) → n ≤ 2 → block < 256 ^ n → byte < 256 → shift_in block byte ≡ byte + 256 * block
shift_in-add n block byte two below small =
    let most : 256 ^ n ≤ 65536 = pow-le-pow_right (omega arith) two in
    let fits : block * 2 ^ 8 % 2 ^ 64 ≡ block * 2 ^ 8 = omega arith in
    rw (fits, or_shifted block 8 byte) (omega arith)

-- What the code puts above the bytes of a chunk.
abbrev pub filler : ℕ → List ℕ → ℕ
filler size chunk = cond (nat_lt (length chunk) size) 128 0

-- Past the filler stand zeros.
number_from-past : (n q : ℕ) → number_from n [] (q + 1) ≡ 0
number_from-past zero q = refl
number_from-past (suc n) q =
    let rest = number_from-past n (q + 1) in
    grind (arith, nat_tests)

-- A block of so many bytes is below the power of 256.
pub number_from-below : (n q : ℕ) (bytes : List ℕ) → ((k : ℕ) → get_or bytes k 0 < 256) → number_from n bytes q < 256 ^ n
number_from-below zero q bytes fits = omega arith
number_from-below (suc n) q bytes fits =
    let rest = number_from-below n (q + 1) bytes fits in
    let here : byte_at bytes q < 256 = grind (arith, nat_tests, fits q) in
    omega arith

-- The code's fold makes the block.
pub fold-block : (size : ℕ) (chunk : List ℕ) → size ≤ 3 → length chunk ≤ size → ((k : ℕ) → get_or chunk k 0 < 256)
    → fold shift_in (filler size chunk) (reverse chunk) ≡ number_from size chunk 0
fold-block zero [] three room fits = refl
fold-block (suc n) [] three room fits = let none = number_from-past n 0 in grind (arith, nat_tests)
fold-block zero (b ∷ bs) three room fits = absurd (omega arith)
fold-block (suc n) (b ∷ bs) three room fits =
    let rest = fold-block n bs (omega arith) (omega arith) (λ k. fits (suc k)) in
    let moved : number_from n (b ∷ bs) 1 ≡ number_from n bs 0 =
    number_from-same n 1 0 (b ∷ bs) bs (λ k i j inside at_i at_j. let next : i ≡ suc j = omega arith in rw next (grind (arith, nat_tests))) in
    let top : filler (suc n) (b ∷ bs) ≡ filler n bs = grind (arith, nat_tests) in
    let step : fold shift_in (filler n bs) (reverse (b ∷ bs)) ≡ shift_in (fold shift_in (filler n bs) (reverse bs)) b =
    rw (reverse-append (b ∷ []) bs) (fold_push shift_in (filler n bs) (reverse bs) b) in
    let added = shift_in-add n (number_from n bs 0) b (omega arith) (number_from-below n 0 bs (λ k. fits (suc k))) (fits 0) in
    rw (top, step, rest, added) (grind (arith, nat_tests))
