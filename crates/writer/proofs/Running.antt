-- Every list of calls has one run, and what a new recording accepts is what is valid.
use Rattle.std.proofs.Common.{◌≡◌, ℕ, ◌≤◌, false, List, [], ◌∷◌, ◌++◌, length, take, drop, replicate, Ok, Err, Result, sym, refl, ap, ◌∙◌, append-nil, arith}
use Rattle.std.proofs.lemmas.List.{length-append, length-drop, length-replicate, take_at, drop_at, take-append-drop, append_cancel_left}
use Rattle.std.proofs.lemmas.Bool.{le-ltb}
use Rattle.std.proofs.lemmas.Bool.Decides.{nat_tests}
use Rattle.schedule.specs.declared.fault.Fault.{Fault}
use Rattle.schedule.specs.declared.fault.Fault.TheVariants.{Piece}
use Rattle.schedule.specs.declared.fault.PieceFault.TheVariants.{OfferedTooLarge, RecordingTooLong, BufferTooShort}
use Rattle.schedule.specs.Faults.{says, judged}
use Rattle.schedule.specs.Ranges.{Ranges, Lawful}
use Rattle.schedule.proofs.Judged.{Clear, judged_clear, clear_judged, judged_as}
use Rattle.schedule.proofs.Table.{says_one, Listed, heard}
use Rattle.writer.specs.declared.held.Held.{Held}
use Rattle.writer.specs.Stream.{complete}
use Rattle.writer.specs.Holding.{Holds, Open, opened}
use Rattle.writer.specs.Calls.{offer_writes, close_writes, offer_rows, close_rows, Written, AfterOffer, AfterClose, Offers, Closes}
use Rattle.writer.specs.Runs.{Call, CallMeets, closing}
use Rattle.writer.specs.Runs.Call.{offer, close}
use Rattle.writer.specs.Lists.{Ask, asked, EveryListRecords, ValidIsAccepted}
use Rattle.writer.specs.Lists.Ask.{ask_offer, ask_close}
use Rattle.writer.proofs.Fronts.{front_all}
use Rattle.writer.proofs.Rows.{Fine, fine}
use Rattle.writer.proofs.Opening.{open_from, opened_open, valid_append}
use Rattle.writer.proofs.Recorded.{writes_streams}
use Rattle.writer.proofs.Runs.{exactly_one}
use Rattle.writer.proofs.Pushing.{push_all, pushed_length, end, ended_length}

-- A buffer with these blocks put at its front.
put_front : (new buffer : List ℕ) (n : ℕ) → length new ≡ n → n ≤ length buffer → Written n buffer (new ++ drop n buffer)
put_front new buffer n e h =
    record {
      fits = h;
      same_length = omega (arith, length-append new (drop n buffer), length-drop n buffer);
      behind = drop_at new (drop n buffer) n e;
    }

-- Two such buffers with the same front are the same.
same_written : (n : ℕ) (buffer one other front : List ℕ) → Written n buffer one → Written n buffer other →
    front ++ take n one ≡ front ++ take n other → one ≡ other
same_written n buffer one other front w v e =
    cc (take-append-drop n one, take-append-drop n other, append_cancel_left front (take n one) (take n other) e)

-- Two that hold what these symbols make are equal.
abbrev hold : (count spill waiting : ℕ) → Held
hold c s w = record { count = c; spill = s; waiting = w }

one_held : (R : Ranges) (ss : List ℕ) (h k : Held) → Holds R ss h → Holds R ss k → h ≡ k
one_held R ss h k p q = let same : hold h.count h.spill h.waiting ≡ hold k.count k.spill k.waiting = cc in same

module _ (R : Ranges) (law : Lawful R) where
  -- The rows of an offer and of a close are rows of the table.
  offer_listed : (count : ℕ) (piece : List ℕ) (room : ℕ) → Listed (offer_rows R count piece room)
  offer_listed count piece room =
      ((Piece (RecordingTooLong _), refl), ((Piece (OfferedTooLarge _), refl), ((Piece (BufferTooShort _), refl), tt)))

  close_listed : (count room : ℕ) → Listed (close_rows R count room)
  close_listed count room = ((Piece (BufferTooShort _), refl), tt)

  -- No row holds of a fine offer.
  offer_clear : (count : ℕ) (piece : List ℕ) (room : ℕ) → Fine R count piece room → Clear (offer_rows R count piece room)
  offer_clear count piece room f = (
    le-ltb _ _ f.fits,
    (le-ltb _ _ (omega (arith, front_all R.base piece f.below)), (le-ltb _ _ f.room_for, tt)),
  )

  -- An offer that is accepted.
  accept : (h : Held) (xs piece buffer : List ℕ) (n : ℕ) → Open R xs h → Fine R h.count piece (length buffer) →
      n ≡ offer_writes R h.count (length piece) → (h' : Held) × (after : List ℕ) × Offers R h piece buffer (Ok n) h' after
  accept h xs piece buffer n o f e =
      let p = push_all R law h piece in
      let long : length p.written ≡ n = pushed_length R law h piece p xs o.holds ∙ sym e in (
        p.after,
        p.written ++ drop n buffer,
        record {
          answers = ap Ok e ∙ sym (clear_judged (offer_rows R h.count piece (length buffer)) _ (offer_clear h.count piece (length buffer) f));
          leaves = (
            put_front p.written buffer n long (omega arith),
            λ ss q. (
              open_from R law (ss ++ piece) p.after (valid_append R law ss piece q.valid f.below (omega arith)) (p.grows ss q.holds).holds,
              cc ((p.grows ss q.holds).writes, take_at p.written (drop n buffer) n long),
            ),
          );
        },
      )

  -- A close that is accepted.
  end_with : (h : Held) (xs buffer : List ℕ) (n : ℕ) → Open R xs h → n ≤ length buffer → n ≡ close_writes R h.count →
      (after : List ℕ) × Closes R h buffer (Ok n) h after
  end_with h xs buffer n o f e =
      let p = end R law h in
      let long : length p.written ≡ n = ended_length R law h p xs o ∙ sym e in (
        p.written ++ drop n buffer,
        record {
          answers = ap Ok e ∙ sym (clear_judged (close_rows R h.count (length buffer)) _ (le-ltb _ _ (omega arith), tt));
          leaves = (
            put_front p.written buffer n long f,
            λ ss q. cc (p.ends ss q.holds, take_at p.written (drop n buffer) n long),
          );
        },
      )

  abbrev IsOpen : Held → Type 0
  IsOpen h = (xs : List ℕ) × Open R xs h

  -- Every offer and every close of an open recording has an answer.
  answer_ask : (h : Held) (a : Ask) → IsOpen h → (c : Call) × (h' : Held) × (asked c ≡ a) × CallMeets R h c h'
  answer_ask h (ask_offer piece buffer) o =
      let rows = offer_rows R h.count piece (length buffer) in
      let a = heard rows (offer_writes R h.count (length piece)) (offer_listed h.count piece (length buffer)) in
      go a.0 a.1
    where
      go : (answer : Result ℕ Fault) → says answer ≡ judged (offer_rows R h.count piece (length buffer)) (offer_writes R h.count (length piece)) →
          (c : Call) × (h' : Held) × (asked c ≡ ask_offer piece buffer) × CallMeets R h c h'
      go (Ok n) e =
          let rows = offer_rows R h.count piece (length buffer) in
          let m = offer_writes R h.count (length piece) in
          let a = accept h o.0 piece buffer n o.1 (fine R h.count piece (length buffer) (judged_as rows m n tt tt e refl)) (judged_clear rows m n e).1 in
          (offer piece buffer (Ok n) a.1, a.0, refl, a.2)
      go (Err f) e = (offer piece buffer (Err f) buffer, h, refl, record { answers = e; leaves = (refl, refl) })
  answer_ask h (ask_close buffer) o =
      let a = heard (close_rows R h.count (length buffer)) (close_writes R h.count) (close_listed h.count (length buffer)) in
      go a.0 a.1
    where
      go : (answer : Result ℕ Fault) → says answer ≡ judged (close_rows R h.count (length buffer)) (close_writes R h.count) →
          (c : Call) × (h' : Held) × (asked c ≡ ask_close buffer) × CallMeets R h c h'
      go (Ok n) e =
          let c = judged_clear (close_rows R h.count (length buffer)) (close_writes R h.count) n e in
          let t = c.0.0 in
          let room : close_writes R h.count ≤ length buffer = grind (arith, nat_tests) in
          let done = end_with h o.0 buffer n o.1 (omega (arith, c.1)) c.1 in
          (close buffer (Ok n) done.0, h, refl, done.1)
      go (Err f) e = (close buffer (Err f) buffer, h, refl, record { answers = e; leaves = (refl, refl) })

  -- A recording that is not closed stays open.
  stays_open : (h : Held) (c : Call) (h' : Held) → IsOpen h → CallMeets R h c h' → closing c ≡ false → IsOpen h'
  stays_open h (offer piece buffer (Ok n) after) h' o p e = (o.0 ++ piece, (p.leaves.1 o.0 o.1).0)
  stays_open h (offer piece buffer (Err f) after) h' o p e = (o.0, rw p.leaves.0 o.1)
  stays_open h (close buffer (Ok n) after) h' o p e = absurd cc
  stays_open h (close buffer (Err f) after) h' o p e = (o.0, rw p.leaves.0 o.1)

  -- One answer to an offer leaves one recording and one buffer, and one answer to a close one buffer.
  offer_leaves : (h : Held) (xs piece buffer : List ℕ) (a : Result ℕ Fault) (h' h'' : Held) (one other : List ℕ) → Open R xs h →
      AfterOffer R h piece buffer a h' one → AfterOffer R h piece buffer a h'' other → (one ≡ other) × (h' ≡ h'')
  offer_leaves h xs piece buffer (Err f) h' h'' one other o v w = (cc, cc)
  offer_leaves h xs piece buffer (Ok n) h' h'' one other o v w =
      let c = v.1 xs o in
      let d = w.1 xs o in
      (same_written n buffer one other (complete R xs) v.0 w.0 (sym c.1 ∙ d.1), one_held R (xs ++ piece) h' h'' c.0.holds d.0.holds)

  close_leaves : (h : Held) (xs buffer : List ℕ) (a : Result ℕ Fault) (h' h'' : Held) (one other : List ℕ) → Open R xs h →
      AfterClose R h buffer a h' one → AfterClose R h buffer a h'' other → (one ≡ other) × (closing (close buffer a one) ≡ false → h' ≡ h'')
  close_leaves h xs buffer (Err f) h' h'' one other o v w = (cc, λ _. cc)
  close_leaves h xs buffer (Ok n) h' h'' one other o v w =
      (same_written n buffer one other (complete R xs) v.0 w.0 (sym (v.1 xs o) ∙ w.1 xs o), λ e. absurd cc)

  -- So two calls that ask the same are the same, and leave the same.
  once : (h : Held) (c d : Call) (h' h'' : Held) → IsOpen h → asked c ≡ asked d → CallMeets R h c h' → CallMeets R h d h'' →
      (c ≡ d) × (closing c ≡ false → h' ≡ h'')
  once h (offer piece buffer a one) (offer piece' buffer' b other) h' h'' o e p q =
      let same_piece : piece' ≡ piece = cc in
      let same_buffer : buffer' ≡ buffer = cc in
      let q' = rw (same_piece, same_buffer) at q in
      let same = says_one a b (p.answers ∙ sym q'.answers) in
      let left = offer_leaves h o.0 piece buffer a h' h'' one other o.1 p.leaves (rw (← same) at q'.leaves) in
      (cc left.0, λ _. left.1)
  once h (close buffer a one) (close buffer' b other) h' h'' o e p q =
      let same_buffer : buffer' ≡ buffer = cc in
      let q' = rw same_buffer at q in
      let same = says_one a b (p.answers ∙ sym q'.answers) in
      let left = close_leaves h o.0 buffer a h' h'' one other o.1 p.leaves (rw (← same) at q'.leaves) in
      (cc left.0, left.1)
  once h (offer _ _ _ _) (close _ _ _) h' h'' o e p q = absurd cc
  once h (close _ _ _) (offer _ _ _ _) h' h'' o e p q = absurd cc

  pub every_list_records : EveryListRecords R
  every_list_records = exactly_one (CallMeets R) closing asked IsOpen answer_ask stays_open once opened ([], opened_open R law)

  pub valid_is_accepted : ValidIsAccepted R
  valid_is_accepted blocks = (
    (λ v.
        let n = offer_writes R 0 (length blocks) in
        let buffer : List ℕ = replicate n 0 in
        let o = opened_open R law in
        let a = accept opened [] blocks buffer n o
        (record { fits = omega arith; below = v.below; room_for = omega (arith, length-replicate {A = ℕ} n 0) }) refl in
        let m = close_writes R a.0.count in
        let buffer' : List ℕ = replicate m 0 in
        let b = end_with a.0 blocks buffer' m (a.2.leaves.1 [] o).0 (omega (arith, length-replicate {A = ℕ} m 0)) refl in
        (buffer, n, a.1, buffer', m, b.0, ((a.0, a.2, (a.0, b.1, refl)), tt))),
    (λ r.
        let v = (writes_streams R law (offer blocks r.0 (Ok r.1) r.2 ∷ close r.3 (Ok r.4) r.5 ∷ []) r.6).0 in
        rw append-nil at v),
  )
