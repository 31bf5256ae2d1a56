-- What a reader holds, and what a group makes known.
use Rattle.std.specs.Prelude.{◌≡◌, ℕ, zero, suc, ◌+◌, ◌-◌, ◌*◌, ◌<◌, ◌≤◌, Bool, true, false, cond, not, ◌&&◌, ◌||◌, List, [], ◌∷◌, ◌++◌, map, codes, Some, None, Option, ◌==◌}
use Rattle.std.specs.Fmt.{decimal}
use Rattle.schedule.specs.Ranges.{Ranges, end_mark}
use Rattle.writer.specs.Passes.{pair_number, pair_of, second_pass_back}
use Rattle.reader.specs.declared.reading.Brought.{Brought}
use Rattle.reader.specs.declared.reading.Brought.TheVariants.{Nothing, One, Two, End, OneThenEnd}
use Rattle.reader.specs.declared.reading.Reading.{Reading}
use Rattle.reader.specs.Back.{carrier_rows, pair_rows}

-- What a block brings: blocks, and whether an end comes behind them.
abbrev pub brought : Brought → List ℕ × Bool
brought Nothing = ([], false)
brought (One x) = (x ∷ [], false)
brought (Two x y) = (x ∷ y ∷ [], false)
brought End = ([], true)
brought (OneThenEnd x) = (x ∷ [], true)

-- Words with a space between any two of them; - where there is none.
abbrev pub spaced : List (List ℕ) → List ℕ
spaced [] = codes "-"
spaced (word ∷ []) = word
spaced (word ∷ next ∷ words) = word ++ (codes " " ++ spaced (next ∷ words))

-- What a block brings, as it is printed: the blocks, and / for an end; - for nothing.
abbrev pub printed : Brought → List ℕ
printed what = spaced (map decimal (brought what).0 ++ cond (brought what).1 (codes "/" ∷ []) [])

-- The number of the group that block b completes, if it completes one. Group 0 with lead 0 is a single block.
abbrev pub completes : (lead base step : ℕ) → Option ℕ → ℕ → Option ℕ
completes zero base zero None b = Some b
completes (suc _) base zero None b = None
completes lead base (suc j) None b = None
completes lead base j (Some low) b = Some (b * base + low)

-- The pair before group j, at its number z, for j from 1.
abbrev pub pair_before : Ranges → ℕ → ℕ → ℕ → ℕ
pair_before R i before w = pair_number R i before (second_pass_back R (suc i) w).1

-- The symbols that group j of the number w makes known: the leading symbol, or the pair before.
abbrev pub lead_symbol : ℕ → ℕ → List ℕ
lead_symbol zero y = []
lead_symbol (suc _) y = y ∷ []

abbrev pub found : Ranges → ℕ → ℕ → ℕ → List ℕ
found R zero before w = lead_symbol R.lead (second_pass_back R 0 w).1
found R (suc i) before w = (pair_of R (pair_before R i before w)).0 ∷ (pair_of R (pair_before R i before w)).1 ∷ []

-- End marks are not handed over; they make the end.
abbrev pub until_mark : ℕ → List ℕ → List ℕ
until_mark mark [] = []
until_mark mark (s ∷ ss) = cond (s == mark) [] (s ∷ until_mark mark ss)

abbrev pub marked : ℕ → List ℕ → Bool
marked mark [] = false
marked mark (s ∷ ss) = s == mark || marked mark ss

abbrev pub hands_over : Ranges → List ℕ → List ℕ × Bool
hands_over R ss = (until_mark (end_mark R) ss, marked (end_mark R) ss)

-- The refusals of group j of the number w, in the order in which they are tried; group 0 has no pair before it.
abbrev pub pair_rows_before : Ranges → ℕ → ℕ → ℕ → ℕ → List (ℕ × ℕ × Bool)
pair_rows_before R place zero before w = []
pair_rows_before R place (suc i) before w = pair_rows R place (pair_before R i before w)

abbrev pub closing_rows : Ranges → ℕ → ℕ → ℕ → Bool → List (ℕ × ℕ × Bool)
closing_rows R place j r end = (24, place, end && not (r == 0)) ∷ (25, place, (j == R.steps) && not end) ∷ []

abbrev pub group_rows : Ranges → ℕ → ℕ → ℕ → ℕ → List (ℕ × ℕ × Bool)
group_rows R place j before w =
    carrier_rows R place j w
    ++ (pair_rows_before R place j before w ++ closing_rows R place j (second_pass_back R j w).0 (marked (end_mark R) (found R j before w)))

-- A new reader.
abbrev pub started : Reading
started = record { count = 0; step = 0; before = 0; low = None }

-- A reader's numbers in range.
abbrev pub BeforeBelow : Ranges → ℕ → ℕ → Type 0
BeforeBelow R zero before = before ≡ 0
BeforeBelow R (suc i) before = before < R.carrier i

abbrev pub LowBelow : Ranges → ℕ → Option ℕ → Type 0
LowBelow R j None = Unit {0}
LowBelow R j (Some low) = (low < R.base) × (1 ≤ j + R.lead)

abbrev pub blocks_taken : Option ℕ → ℕ
blocks_taken None = 0
blocks_taken (Some low) = 1

pub record InRange (R : Ranges) (g : Reading) : Type 0 where
  pub step_high : g.step ≤ R.steps
  pub before_below : BeforeBelow R g.step g.before
  pub low_below : LowBelow R g.step g.low
  pub counted : g.count ≡ 2 * g.step + R.lead - 1 + blocks_taken g.low

-- Sizes that hold in every state, whatever the schedule, so that no sum overflows.
abbrev pub low_of : Option ℕ → ℕ
low_of None = 0
low_of (Some low) = low

abbrev pub Small : Reading → Type 0
Small g =
    (g.step ≤ 65535) × (g.before ≤ 16777217) × (low_of g.low ≤ 16777216) × (g.count ≤ 2 * g.step + 1 + blocks_taken g.low)
