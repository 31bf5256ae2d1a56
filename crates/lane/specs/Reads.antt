-- Runs of calls on a reader, and what they come to.
use Rattle.std.specs.Prelude.{ℕ, Bool, true, false, List, [], ◌∷◌, ◌++◌, Ok, Err, Result}
use Rattle.schedule.specs.declared.fault.Fault.{Fault}
use Rattle.schedule.specs.Ranges.{Ranges}
use Rattle.writer.specs.Runs.{Runs, EndedAtLast, Follows}
use Rattle.reader.specs.declared.reading.Brought.{Brought}
use Rattle.reader.specs.declared.reading.Reading.{Reading}
use Rattle.reader.specs.Reading.{brought, started}
use Rattle.reader.specs.Calls.{Takes, Stops}

-- A call and its answer.
pub data Reply : Type 0 where
  took : (b : ℕ) (answer : Result Brought Fault) → Reply
  stopped : (answer : Result (Unit {0}) Fault) → Reply

-- A call without its answer.
pub data Request : Type 0 where
  take_it : (b : ℕ) → Request
  stop_it : Request

abbrev pub request : Reply → Request
request (took b answer) = take_it b
request (stopped answer) = stop_it

-- Its promise, on reader g before and g' after.
abbrev pub ReplyMeets : Ranges → Reading → Reply → Reading → Type 0
ReplyMeets R g (took b answer) g' = Takes R g b answer g'
ReplyMeets R g (stopped answer) g' = Stops g answer g'

-- An accepted stop.
abbrev pub stopping : Reply → Bool
stopping (stopped (Ok _)) = true
stopping _ = false

-- Runs on the reader g.
abbrev pub Reads : Ranges → Reading → List Reply → Type 0
Reads R = Runs (ReplyMeets R) stopping

abbrev pub StoppedAtLast : List Reply → Type 0
StoppedAtLast = EndedAtLast stopping

abbrev pub Accepted : Reply → Type 0
Accepted (took _ (Ok _)) = Unit {0}
Accepted (took _ (Err _)) = ⊥
Accepted (stopped (Ok _)) = Unit {0}
Accepted (stopped (Err _)) = ⊥

-- The blocks of the accepted takes, in order.
abbrev pub taken : List Reply → List ℕ
taken [] = []
taken (took b (Ok _) ∷ replies) = b ∷ taken replies
taken (took _ (Err _) ∷ replies) = taken replies
taken (stopped _ ∷ replies) = taken replies

-- The recordings handed over: as many as ends were brought, each the blocks brought since the end before. These blocks
-- were brought since the last end already.
abbrev pub handed : List ℕ → List Reply → List (List ℕ)
handed since [] = []
handed since (took _ (Err _) ∷ replies) = handed since replies
handed since (took _ (Ok x) ∷ replies) =
    elim (brought x).1 [
      | true ↦ (since ++ (brought x).0) ∷ handed [] replies
      | false ↦ handed (since ++ (brought x).0) replies
    ]
handed since (stopped _ ∷ replies) = handed since replies

-- A run on a new reader that answers the list, up to its accepted stop or to the end.
abbrev pub Replies : Ranges → List Request → List Reply → Type 0
Replies R = Follows (Reads R started) StoppedAtLast request
