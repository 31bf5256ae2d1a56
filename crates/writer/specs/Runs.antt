-- Runs of calls, and what those on a recording come to.
use Rattle.std.specs.Prelude.{◌≡◌, ℕ, Bool, true, false, ◌⊎◌, List, [], ◌∷◌, ◌++◌, map, take, Ok, Err, Result}
use Rattle.schedule.specs.declared.fault.Fault.{Fault}
use Rattle.schedule.specs.Ranges.{Ranges}
use Rattle.writer.specs.declared.held.Held.{Held}
use Rattle.writer.specs.Holding.{opened}
use Rattle.writer.specs.Calls.{Offers, Closes}

-- `Meets s c s'`: call c meets its promise on s and leaves s'. `last c`: c is an accepted closing. Each call meets its promise
-- on what the earlier ones have left; an accepted closing is the last.
abbrev pub Runs : {S C : Type 0} → (S → C → S → Type 0) → (C → Bool) → S → List C → Type 0
Runs Meets last s [] = Unit {0}
Runs {S} Meets last s (c ∷ calls) = (s' : S) × Meets s c s' × elim (last c) [ true ↦ calls ≡ [] | false ↦ Runs Meets last s' calls ]

-- Some call is an accepted closing; in a run it is the last.
abbrev pub EndedAtLast : {C : Type 0} → (C → Bool) → List C → Type 0
EndedAtLast last [] = ⊥
EndedAtLast last (c ∷ calls) = elim (last c) [ true ↦ Unit {0} | false ↦ EndedAtLast last calls ]

-- A run that answers a beginning of the list in order, and either is ended or answers the whole list. `asked c`: call c without
-- its answer.
pub record Follows {C A : Type 0} (IsRun IsEnded : List C → Type 0) (asked : C → A) (asks : List A) (calls : List C) : Type 0 where
  pub runs : IsRun calls
  pub in_order : (rest : List A) × (asks ≡ map asked calls ++ rest)
  pub to_the_end : IsEnded calls ⊎ (map asked calls ≡ asks)

-- For every x there is exactly one y.
abbrev pub ExactlyOne : {X Y : Type 0} → (X → Y → Type 0) → Type 0
ExactlyOne {X} {Y} P = (x : X) → ((y : Y) × P x y) × ((one other : Y) → P x one → P x other → one ≡ other)

-- A call: what it is given, its answer, and the buffer after it.
pub data Call : Type 0 where
  offer : (piece buffer : List ℕ) (answer : Result ℕ Fault) (after : List ℕ) → Call
  close : (buffer : List ℕ) (answer : Result ℕ Fault) (after : List ℕ) → Call

-- Its promise, on a recording that holds h before and h' after.
abbrev pub CallMeets : Ranges → Held → Call → Held → Type 0
CallMeets R h (offer piece buffer answer after) h' = Offers R h piece buffer answer h' after
CallMeets R h (close buffer answer after) h' = Closes R h buffer answer h' after

-- An accepted close.
abbrev pub closing : Call → Bool
closing (close _ (Ok _) _) = true
closing _ = false

-- Runs on a recording that holds h.
abbrev pub Records : Ranges → Held → List Call → Type 0
Records R = Runs (CallMeets R) closing

abbrev pub ClosedAtLast : List Call → Type 0
ClosedAtLast = EndedAtLast closing

-- A run on a new recording, up to its accepted closing.
abbrev pub Recorded : Ranges → List Call → Type 0
Recorded R calls = Records R opened calls × ClosedAtLast calls

-- The pieces of the accepted offers, joined in order.
abbrev pub accepted : List Call → List ℕ
accepted [] = []
accepted (offer piece _ (Ok _) _ ∷ calls) = piece ++ accepted calls
accepted (offer _ _ (Err _) _ ∷ calls) = accepted calls
accepted (close _ _ _ ∷ calls) = accepted calls

-- What the accepted calls wrote, joined in order.
abbrev pub wrote : List Call → List ℕ
wrote [] = []
wrote (offer _ _ (Ok n) after ∷ calls) = take n after ++ wrote calls
wrote (offer _ _ (Err _) _ ∷ calls) = wrote calls
wrote (close _ (Ok n) after ∷ calls) = take n after ++ wrote calls
wrote (close _ (Err _) _ ∷ calls) = wrote calls
