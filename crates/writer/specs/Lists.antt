-- Lists of calls that were written down beforehand.
use Rattle.std.specs.Prelude.{ℕ, ◌↔◌, List, [], ◌∷◌, Ok}
use Rattle.schedule.specs.Ranges.{Ranges}
use Rattle.writer.specs.Stream.{Valid}
use Rattle.writer.specs.Holding.{opened}
use Rattle.writer.specs.Runs.{Follows, ExactlyOne, Call, Records, ClosedAtLast, Recorded}
use Rattle.writer.specs.Runs.Call.{offer, close}

-- A call without its answer.
pub data Ask : Type 0 where
  ask_offer : (piece buffer : List ℕ) → Ask
  ask_close : (buffer : List ℕ) → Ask

abbrev pub asked : Call → Ask
asked (offer piece buffer answer after) = ask_offer piece buffer
asked (close buffer answer after) = ask_close buffer

-- A run on a new recording that answers the list, up to its accepted closing or to the end.
abbrev pub Answers : Ranges → List Ask → List Call → Type 0
Answers R = Follows (Records R opened) ClosedAtLast asked

-- Every list has exactly one such run.
abbrev pub EveryListRecords : Ranges → Type 0
EveryListRecords R = ExactlyOne (Answers R)

-- A run that accepts these blocks in one offer, and closes.
abbrev pub AcceptsAtOnce : Ranges → List ℕ → Type 0
AcceptsAtOnce R blocks =
    (buffer : List ℕ) × (n : ℕ) × (after : List ℕ) × (buffer' : List ℕ) × (m : ℕ) × (after' : List ℕ) ×
    Recorded R (offer blocks buffer (Ok n) after ∷ close buffer' (Ok m) after' ∷ [])

-- A valid recording is what a new recording accepts in one offer, given room, and closes.
abbrev pub ValidIsAccepted : Ranges → Type 0
ValidIsAccepted R = (blocks : List ℕ) → Valid R blocks ↔ AcceptsAtOnce R blocks
