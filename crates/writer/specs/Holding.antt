-- What an open recording holds.
use Rattle.std.specs.Prelude.{◌≡◌, ℕ, suc, ◌+◌, ◌-◌, ◌*◌, ◌/◌, ◌^◌, ◌<◌, ◌≤◌, List, [], ◌∷◌, ◌++◌, length, drop, Some, None, Option}
use Rattle.schedule.specs.Ranges.{Ranges}
use Rattle.writer.specs.Stream.{Valid, first_spill, first_pass, complete}
use Rattle.writer.specs.declared.held.Held.{Held}
use Rattle.writer.specs.declared.held.Group.{Group}
use Rattle.writer.specs.declared.held.Group.TheVariants.{One, Two}

-- The spill that the last pair leaves, where y(j) is y; and the symbol that waits for its partner, or 0.
abbrev pub last_spill : Ranges → ℕ → ℕ → List ℕ → ℕ
last_spill R j y [] = y
last_spill R j y (s ∷ []) = y
last_spill R j y (s ∷ t ∷ ss) = last_spill R (suc j) (first_pass R j s t).1 ss

abbrev pub unpaired : List ℕ → ℕ
unpaired [] = 0
unpaired (s ∷ []) = s
unpaired (s ∷ t ∷ ss) = unpaired ss

-- What has gone over into the next group, once these symbols are known.
abbrev pub spill_left : Ranges → List ℕ → ℕ
spill_left R ss = last_spill R 0 (first_spill R.lead ss) (drop R.lead ss)

-- These numbers are those of a recording that has taken these symbols.
pub record Holds (R : Ranges) (ss : List ℕ) (h : Held) : Type 0 where
  pub count : h.count ≡ length ss
  pub spill : h.spill ≡ spill_left R ss
  pub waiting : h.waiting ≡ unpaired (drop R.lead ss)

-- An open recording that has accepted these blocks. Its spill is below its range, and its waiting block below B.
pub record Open (R : Ranges) (blocks : List ℕ) (h : Held) : Type 0 where
  pub valid : Valid R blocks
  pub holds : Holds R blocks h
  pub spill_below : h.spill < R.spill ((length blocks - R.lead) / 2)
  pub waiting_below : h.waiting < R.base

-- What a new recording holds.
abbrev pub opened : Held
opened = record { count = 0; spill = 0; waiting = 0 }

-- How many blocks have been written once n symbols are known.
abbrev pub due : Ranges → ℕ → ℕ
due R n = 2 * ((n - R.lead) / 2) + R.lead - 1

-- Sizes that hold in every state, whatever the schedule, so that no sum overflows.
abbrev pub Sized : Held → Type 0
Sized h = (h.spill < 2 ^ 48) × (h.waiting ≤ 16777216)

abbrev pub Small : Held → Type 0
Small h = (h.count < 2 ^ 18) × Sized h

abbrev pub group_blocks : Group → List ℕ
group_blocks (One w) = w ∷ []
group_blocks (Two v w) = v ∷ w ∷ []

-- What a symbol writes: the group that it completes, if any.
abbrev pub completed : Option Group → List ℕ
completed None = []
completed (Some group) = group_blocks group

-- Some more symbols: what is held then, and the groups whose pairs they complete.
pub record Grows (R : Ranges) (ss new : List ℕ) (h' : Held) (written : List ℕ) : Type 0 where
  pub holds : Holds R (ss ++ new) h'
  pub writes : complete R (ss ++ new) ≡ complete R ss ++ written
