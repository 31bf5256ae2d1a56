-- The laws of the writer.
use Rattle.std.specs.Prelude.{◌≡◌, ℕ, ◌+◌, ◌<◌, ◌≤◌, ◌⊎◌, ◌↔◌, List, ◌++◌, length, slice_index_or}
use Rattle.std.specs.List.{AllByRecursion}
use Rattle.schedule.specs.Ranges.{Ranges}
use Rattle.writer.specs.Stream.{Valid, symbols, stream}
use Rattle.writer.specs.Passes.{PassesTakenBack}
use Rattle.writer.specs.Calls.{offer_writes, close_writes}
use Rattle.writer.specs.Runs.{Call, Recorded, accepted, wrote}

-- The stream of n blocks has T + 1 blocks, which is n + 2 or n + 3, each below B, the last 0 or 1.
pub record StreamShape (R : Ranges) (blocks : List ℕ) : Type 0 where
  pub long : length (stream R blocks) ≡ length (symbols R blocks) + 1
  pub two_or_three_more : (length (stream R blocks) ≡ length blocks + 2) ⊎ (length (stream R blocks) ≡ length blocks + 3)
  pub below : AllByRecursion (λ x. x < R.base) (stream R blocks)
  pub last : slice_index_or (stream R blocks) (length (symbols R blocks)) 0 ≤ 1

-- The first list is the beginning of the second, or all of it.
abbrev pub Begins : List ℕ → List ℕ → Type 0
Begins xs ys = (rest : List ℕ) × (xs ++ rest ≡ ys)

-- What a run wrote is the stream of what it accepted, and that is a valid recording.
abbrev pub WritesStreams : Ranges → Type 0
WritesStreams R = (calls : List Call) → Recorded R calls → Valid R (accepted calls) × (wrote calls ≡ stream R (accepted calls))

-- One stream equals or begins the other exactly when both recordings accepted the same blocks.
abbrev pub DistinctBeginnings : Ranges → Type 0
DistinctBeginnings R =
    (one other : List Call) → Recorded R one → Recorded R other →
    (Begins (wrote one) (wrote other) ⊎ Begins (wrote other) (wrote one)) ↔ (accepted one ≡ accepted other)

pub record WriterLaws (R : Ranges) : Type 0 where
  pub passes : PassesTakenBack R
  pub shape : (blocks : List ℕ) → Valid R blocks → StreamShape R blocks
  pub writes : WritesStreams R
  pub distinct : DistinctBeginnings R
  -- An offer of so many blocks writes at most one block more than these, and a close at most four.
  pub few : (count more : ℕ) → (offer_writes R count more ≤ more + 1) × (close_writes R count ≤ 4)
