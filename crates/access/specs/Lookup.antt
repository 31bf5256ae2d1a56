-- What a lookup works on, what refuses it, and what it answers.
use Rattle.std.specs.Prelude.{◌≡◌, ℕ, suc, ◌+◌, ◌-◌, ◌*◌, ◌/◌, ◌%◌, ◌<◌, ◌≤◌, Bool, cond, ◌||◌, ◌⊎◌, List, [], ◌∷◌, ◌++◌, length, take, drop, Ok, Err, Result, ◌==◌, nat_le, nat_lt, slice_index}
use Rattle.schedule.specs.declared.fault.Fault.{Fault}
use Rattle.schedule.specs.Faults.{says}
use Rattle.schedule.specs.Ranges.{Ranges, end_mark}
use Rattle.writer.specs.Calls.{front_below}
use Rattle.writer.specs.Passes.{pair_number, pair_of, second_pass_back}
use Rattle.writer.specs.Stream.{Valid, stream}
use Rattle.reader.specs.Back.{carrier_rows, pair_rows}

-- The index of group j's first block.
abbrev pub start : Ranges → ℕ → ℕ
start R j = 2 * j + R.lead - 1

-- The middle part of a stream that groups j and j + 1 are.
abbrev pub part : Ranges → List ℕ → ℕ → List ℕ
part R blocks j = take (start R (j + 2) - start R j) (drop (start R j) blocks)

-- The numbers of the groups in a part: the later has two blocks, and the earlier one or two.
abbrev pub earlier : Ranges → List ℕ → ℕ
earlier R part = cond (length part == 3) (slice_index part 0) (slice_index part 1 * R.base + slice_index part 0)

abbrev pub later : Ranges → List ℕ → ℕ
later R part = slice_index part (length part - 1) * R.base + slice_index part (length part - 2)

-- The pair j of a part, at its number z.
abbrev pub pair_in : Ranges → ℕ → List ℕ → ℕ
pair_in R j part = pair_number R j (second_pass_back R j (earlier R part)).0 (second_pass_back R (suc j) (later R part)).1

-- No such place: p is 0 or beyond the last pair, or the stream ends before its groups do.
abbrev pub no_place : Ranges → List ℕ → ℕ → ℕ → Bool
no_place R blocks p end = p == 0 || (nat_lt (R.lead + 2 * R.steps) p || nat_lt (length blocks) end)

-- The refusals of a part that begins at index `first`: a block is too large, and then its groups and their pair.
abbrev pub large_rows : Ranges → ℕ → List ℕ → List (ℕ × ℕ × Bool)
large_rows R first part = (20, first + front_below R.base part, nat_lt (front_below R.base part) (length part)) ∷ []

abbrev pub groups_rows : Ranges → ℕ → ℕ → List ℕ → List (ℕ × ℕ × Bool)
groups_rows R j first part =
    carrier_rows R (first + length part - 3) j (earlier R part)
    ++ (carrier_rows R (first + length part - 1) (suc j) (later R part) ++ pair_rows R (first + length part - 1) (pair_in R j part))

-- The end mark is no block.
abbrev pub mark_rows : Ranges → ℕ → ℕ → List (ℕ × ℕ × Bool)
mark_rows R p s = (30, p, (s == end_mark R)) ∷ []

-- Place p in pair j of a part: its symbol, and the refusals in the order in which they are tried.
abbrev pub part_symbol : Ranges → ℕ → ℕ → List ℕ → ℕ
part_symbol R p j part = cond ((p - 1 - R.lead) % 2 == 0) (pair_of R (pair_in R j part)).0 (pair_of R (pair_in R j part)).1

abbrev pub part_rows : Ranges → ℕ → ℕ → ℕ → List ℕ → List (ℕ × ℕ × Bool)
part_rows R p j first part = large_rows R first part ++ (groups_rows R j first part ++ mark_rows R p (part_symbol R p j part))

abbrev pub pair_symbol : Ranges → List ℕ → ℕ → ℕ → ℕ
pair_symbol R blocks p j = part_symbol R p j (part R blocks j)

abbrev pub pair_place_rows : Ranges → List ℕ → ℕ → ℕ → List (ℕ × ℕ × Bool)
pair_place_rows R blocks p j = (30, p, no_place R blocks p (start R (j + 2))) ∷ part_rows R p j (start R j) (part R blocks j)

-- Place 1 with lead 1: the symbol is y(0), in the two blocks of group 0.
abbrev pub lead_symbol : Ranges → List ℕ → ℕ
lead_symbol R blocks = (second_pass_back R 0 (later R (take 2 blocks))).1

abbrev pub lead_place_rows : Ranges → List ℕ → ℕ → List (ℕ × ℕ × Bool)
lead_place_rows R blocks p =
    (30, p, no_place R blocks p 2)
    ∷ (large_rows R 0 (take 2 blocks) ++ (carrier_rows R 1 0 (later R (take 2 blocks)) ++ mark_rows R p (lead_symbol R blocks)))

-- The lookup of place p.
abbrev pub lookup_rows : Ranges → List ℕ → ℕ → List (ℕ × ℕ × Bool)
lookup_rows R blocks p = cond (nat_le p R.lead) (lead_place_rows R blocks p) (pair_place_rows R blocks p ((p - 1 - R.lead) / 2))

abbrev pub symbol : Ranges → List ℕ → ℕ → ℕ
symbol R blocks p = cond (nat_le p R.lead) (lead_symbol R blocks) (pair_symbol R blocks p ((p - 1 - R.lead) / 2))

-- On exactly one closed stream: the recording's block at each of its places, and 30 at every other.
abbrev pub LooksUp : Ranges → List ℕ → ℕ → Result ℕ Fault → Type 0
LooksUp R blocks p answer =
    (recording : List ℕ) → Valid R recording → blocks ≡ stream R recording →
    (1 ≤ p → p ≤ length recording → answer ≡ Ok (slice_index recording (p - 1)))
    × ((p ≡ 0) ⊎ (length recording < p) → says answer ≡ Err (30, p))
