-- Bytes packed into blocks.
use Rattle.std.specs.Prelude.{◌≡◌, ℕ, zero, suc, ◌+◌, ◌-◌, ◌*◌, ◌/◌, ◌<◌, ◌≤◌, cond, List, length, ◌==◌, nat_lt, slice_index}

-- The byte at a place of the filled bytes: the bytes, then one 80 (hexadecimal), then zeros.
abbrev pub byte_at : List ℕ → ℕ → ℕ
byte_at bytes q = cond (nat_lt q (length bytes)) (slice_index bytes q) (cond (q == length bytes) 128 0)

-- The number of so many filled bytes from a place on, low byte first.
abbrev pub number_from : (count : ℕ) → List ℕ → ℕ → ℕ
number_from zero bytes q = 0
number_from (suc count) bytes q = byte_at bytes q + 256 * number_from count bytes (q + 1)

-- Block i of bytes packed size to a block.
abbrev pub block_at : (size : ℕ) → List ℕ → ℕ → ℕ
block_at size bytes i = number_from size bytes (i * size)

-- How many blocks so many bytes make: an incomplete last block counts.
abbrev pub blocks_of : (size count : ℕ) → ℕ
blocks_of size count = (count + (size - 1)) / size

-- How many blocks bytes make at a width.
abbrev pub needed : (width : ℕ) → List ℕ → ℕ
needed width bytes = blocks_of (width / 8) (length bytes)

-- The buffer after a packing into n blocks: they stand at its front, and the rest is as it was.
pub record Packed (size n : ℕ) (bytes before after : List ℕ) : Type 0 where
  pub same_length : length after ≡ length before
  pub front : (i : ℕ) → i < n → slice_index after i ≡ block_at size bytes i
  pub rest : (i : ℕ) → n ≤ i → slice_index after i ≡ slice_index before i
