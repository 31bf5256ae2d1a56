-- The end marks and the closing group.
use Rattle.std.proofs.Common.{◌≡◌, ℕ, suc, ◌+◌, ◌-◌, ◌*◌, ◌/◌, ◌%◌, ◌≤◌, List, [], ◌∷◌, ◌++◌, length, take, drop, sym, refl, ap, ◌∙◌, subst, inl, inr, append_assoc, arith}
use Rattle.std.proofs.lemmas.Bool.{cases_lt}
use Rattle.std.proofs.lemmas.List.{length-append, length-drop}
use Rattle.schedule.specs.Ranges.{Ranges, end_mark}
use Rattle.writer.specs.Stream.{marks, symbols, first_pass, group, groups, closed, complete, stream}
use Rattle.writer.specs.Holding.{last_spill, spill_left, Holds, Grows}
use Rattle.writer.proofs.Growing.{pair_grows}
use Rattle.writer.specs.declared.held.Held.{Held}

-- One or two marks, so that the symbols, less the lead, are even in number.
pub record Marked (R : Ranges) (n : ℕ) (ms : List ℕ) : Type 0 where
  pub some : 1 ≤ length ms
  pub few : length ms ≤ 2
  pub even : (n + length ms - R.lead) % 2 ≡ 0
  pub marks_are : take (length ms) (end_mark R ∷ end_mark R ∷ []) ≡ ms

pub marks_one : (R : Ranges) (n : ℕ) → (n + 1 - R.lead) % 2 ≡ 0 → marks R n ≡ end_mark R ∷ []
marks_one R n e = rw (e, marks) refl

pub marks_two : (R : Ranges) (n : ℕ) → (n + 1 - R.lead) % 2 ≡ 1 → marks R n ≡ end_mark R ∷ end_mark R ∷ []
marks_two R n e = rw (e, marks) refl

pub marked : (R : Ranges) → R.lead ≤ 1 → (n : ℕ) → Marked R n (marks R n)
marked R h n =
    elim (cases_lt ((n + 1 - R.lead) % 2) 1) [
      | inl l ↦ subst (Marked R n) (sym (marks_one R n (omega arith)))
          (record { some = omega arith; few = omega arith; even = omega arith; marks_are = refl })
      | inr l ↦ subst (Marked R n) (sym (marks_two R n (omega arith)))
          (record { some = omega arith; few = omega arith; even = omega arith; marks_are = refl })
    ]

pub the_marks : (R : Ranges) (n k mark : ℕ) → Marked R n (marks R n) → mark ≡ end_mark R → k ≡ length (marks R n) → take k (mark ∷ mark ∷ []) ≡ marks R n
the_marks R n k mark m e f = rw (e, f) m.marks_are

pub first_mark : (R : Ranges) (n : ℕ) → (rest : List ℕ) × (marks R n ≡ end_mark R ∷ rest)
first_mark R n =
    elim (cases_lt ((n + 1 - R.lead) % 2) 1) [
      | inl l ↦ ([], marks_one R n (omega arith))
      | inr l ↦ (end_mark R ∷ [], marks_two R n (omega arith))
    ]

-- The symbols of a recording: its blocks behind the lead are in pairs, or one is left over, or there is no block to lead.
pub symbols_even : (R : Ranges) (xs : List ℕ) (i : ℕ) → length xs ≡ 2 * i + R.lead → symbols R xs ≡ xs ++ end_mark R ∷ end_mark R ∷ []
symbols_even R xs i e = ap (λ (ms : List ℕ). xs ++ ms) (marks_two R (length xs) (omega arith))

pub symbols_odd : (R : Ranges) (xs : List ℕ) (i s : ℕ) → length xs ≡ 2 * i + R.lead → symbols R (xs ++ s ∷ []) ≡ xs ++ s ∷ end_mark R ∷ []
symbols_odd R xs i s e =
    ap (λ (ms : List ℕ). (xs ++ s ∷ []) ++ ms) (marks_one R (length (xs ++ s ∷ [])) (omega (arith, length-append xs (s ∷ []))))
    ∙ append_assoc xs (s ∷ []) (end_mark R ∷ [])

pub symbols_lone : (R : Ranges) → R.lead ≡ 1 → symbols R [] ≡ end_mark R ∷ []
symbols_lone R e = marks_one R 0 (omega arith)

-- The closing group stands behind the groups of the pairs.
pub closed_is : (R : Ranges) (j y k : ℕ) (ss : List ℕ) → k ≡ j + length ss / 2 →
    closed R j y ss ≡ groups R j y ss ++ group R k 0 (last_spill R j y ss)
closed_is R j y k [] e = ap (λ (i : ℕ). group R i 0 y) (omega arith)
closed_is R j y k (s ∷ []) e = ap (λ (i : ℕ). group R i 0 y) (omega arith)
closed_is R j y k (s ∷ t ∷ ss) e =
    rw (append_assoc, closed_is R (suc j) (first_pass R j s t).1 k ss (omega arith)) refl

pub stream_is : (R : Ranges) (blocks : List ℕ) (k : ℕ) → k ≡ (length (symbols R blocks) - R.lead) / 2 →
    stream R blocks ≡ complete R (symbols R blocks) ++ group R k 0 (spill_left R (symbols R blocks))
stream_is R blocks k e = closed_is R 0 _ k (drop R.lead (symbols R blocks)) (omega (arith, length-drop R.lead (symbols R blocks)))

-- The stream of a recording whose symbols end with the pair (s, t), behind the symbols ss.
pub stream_pair : (R : Ranges) (ss : List ℕ) (i s t : ℕ) → length ss ≡ 2 * i + R.lead → (blocks : List ℕ) → symbols R blocks ≡ ss ++ s ∷ t ∷ [] →
    stream R blocks ≡ (complete R ss ++ group R i (first_pass R i s t).0 (spill_left R ss)) ++ group R (suc i) 0 (first_pass R i s t).1
stream_pair R ss i s t long blocks e =
    let grows = pair_grows R ss i s t long in
    cc (stream_is R blocks (suc i) (omega (arith, ap length e)))

-- What the marks write and the closing group end the stream.
pub closes : (R : Ranges) (blocks : List ℕ) (h last : Held) (written : List ℕ) → Holds R blocks h → Grows R blocks (marks R h.count) last written →
    (k : ℕ) → k ≡ (last.count - R.lead) / 2 → (closing : List ℕ) → closing ≡ group R k 0 last.spill →
    stream R blocks ≡ complete R blocks ++ (written ++ closing)
closes R blocks h last written holds marked k e closing f =
    let grows = subst (λ (n : ℕ). Grows R blocks (marks R n) last written) holds.count marked in
    cc (stream_is R blocks k (omega arith), append_assoc (complete R blocks) written closing)
