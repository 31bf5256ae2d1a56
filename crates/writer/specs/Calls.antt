-- What offer and close answer, write and leave.
use Rattle.std.specs.Prelude.{◌≡◌, ℕ, suc, ◌+◌, ◌-◌, ◌≤◌, Bool, cond, List, [], ◌∷◌, ◌++◌, length, take, drop, Ok, Err, Result, nat_le, nat_lt}
use Rattle.schedule.specs.declared.fault.Fault.{Fault}
use Rattle.schedule.specs.Faults.{says, judged}
use Rattle.schedule.specs.Ranges.{Ranges, longest}
use Rattle.writer.specs.declared.held.Held.{Held}
use Rattle.writer.specs.Stream.{marks, complete, stream}
use Rattle.writer.specs.Holding.{Open, due}

-- How many blocks stand before the first that is `base` or more.
abbrev pub front_below : ℕ → List ℕ → ℕ
front_below base [] = 0
front_below base (x ∷ xs) = cond (nat_le base x) 0 (suc (front_below base xs))

-- How many blocks an offer writes, and a close, where `count` blocks were accepted before.
abbrev pub offer_writes : Ranges → ℕ → ℕ → ℕ
offer_writes R count more = due R (count + more) - due R count

abbrev pub close_writes : Ranges → ℕ → ℕ
close_writes R count = count + length (marks R count) + 1 - due R count

-- The refusals of an offer and of a close, in the order in which they are tried.
abbrev pub offer_rows : Ranges → ℕ → List ℕ → ℕ → List (ℕ × ℕ × Bool)
offer_rows R count piece room =
    (11, longest R - count, nat_lt (longest R) (count + length piece))
    ∷ (10, front_below R.base piece, nat_lt (front_below R.base piece) (length piece))
    ∷ (12, offer_writes R count (length piece), nat_lt room (offer_writes R count (length piece)))
    ∷ []

abbrev pub close_rows : Ranges → ℕ → ℕ → List (ℕ × ℕ × Bool)
close_rows R count room = (12, close_writes R count, nat_lt room (close_writes R count)) ∷ []

-- A buffer of which the first n blocks were written: the rest is as it was.
pub record Written (n : ℕ) (buffer buffer' : List ℕ) : Type 0 where
  pub fits : n ≤ length buffer
  pub same_length : length buffer' ≡ length buffer
  pub behind : drop n buffer' ≡ drop n buffer

-- What an accepted offer wrote follows what was written before, and a refused one leaves recording and buffer as they were.
abbrev pub AfterOffer : Ranges → Held → List ℕ → List ℕ → Result ℕ Fault → Held → List ℕ → Type 0
AfterOffer R h piece buffer (Ok n) h' buffer' =
    Written n buffer buffer' ×
    ((blocks : List ℕ) → Open R blocks h → Open R (blocks ++ piece) h' × (complete R (blocks ++ piece) ≡ complete R blocks ++ take n buffer'))
AfterOffer R h piece buffer (Err f) h' buffer' = (h' ≡ h) × (buffer' ≡ buffer)

abbrev pub AfterClose : Ranges → Held → List ℕ → Result ℕ Fault → Held → List ℕ → Type 0
AfterClose R h buffer (Ok n) h' buffer' =
    Written n buffer buffer' × ((blocks : List ℕ) → Open R blocks h → stream R blocks ≡ complete R blocks ++ take n buffer')
AfterClose R h buffer (Err f) h' buffer' = (h' ≡ h) × (buffer' ≡ buffer)

-- The promises of offer and close: recording h and buffer before, h' and buffer' after.
pub record Offers (R : Ranges) (h : Held) (piece buffer : List ℕ) (answer : Result ℕ Fault) (h' : Held) (buffer' : List ℕ) : Type 0 where
  pub answers : says answer ≡ judged (offer_rows R h.count piece (length buffer)) (offer_writes R h.count (length piece))
  pub leaves : AfterOffer R h piece buffer answer h' buffer'

pub record Closes (R : Ranges) (h : Held) (buffer : List ℕ) (answer : Result ℕ Fault) (h' : Held) (buffer' : List ℕ) : Type 0 where
  pub answers : says answer ≡ judged (close_rows R h.count (length buffer)) (close_writes R h.count)
  pub leaves : AfterClose R h buffer answer h' buffer'
