-- A run on a new recording writes the stream of the blocks that it accepted.
use Rattle.std.proofs.Common.{◌≡◌, ℕ, List, [], ◌∷◌, ◌++◌, take, Ok, Err, sym, inl, inr, append_assoc, append-nil}
use Rattle.schedule.specs.Ranges.{Ranges, Lawful}
use Rattle.writer.specs.declared.held.Held.{Held}
use Rattle.writer.specs.Stream.{Valid, complete, stream}
use Rattle.writer.specs.Holding.{Open, opened}
use Rattle.writer.specs.Runs.{Call, Records, ClosedAtLast, accepted, wrote}
use Rattle.writer.specs.Runs.Call.{offer, close}
use Rattle.writer.specs.Laws.{WritesStreams, DistinctBeginnings}
use Rattle.writer.proofs.Opening.{none_written, opened_open}
use Rattle.writer.proofs.Unique.{stream_unique}

module _ (R : Ranges) (law : Lawful R) where
  abbrev Writes : List ℕ → List Call → Type 0
  Writes xs calls = Valid R (xs ++ accepted calls) × (complete R xs ++ wrote calls ≡ stream R (xs ++ accepted calls))

  records : (h : Held) (xs : List ℕ) (calls : List Call) → Open R xs h → Records R h calls → ClosedAtLast calls → Writes xs calls
  records h xs [] o r last = absurd last
  records h xs (offer piece buffer (Ok n) after ∷ calls) o r last =
      let c = r.1.leaves.1 xs o in
      let more = records r.0 (xs ++ piece) calls c.0 r.2 last in (
        rw append_assoc at more.0,
        cc (append_assoc (complete R xs) (take n after) (wrote calls), append_assoc xs piece (accepted calls), c.1, more.1),
      )
  records h xs (offer piece buffer (Err f) after ∷ calls) o r last =
      records r.0 xs calls (rw r.1.leaves.0 o) r.2 last
  records h xs (close buffer (Err f) after ∷ calls) o r last =
      records r.0 xs calls (rw r.1.leaves.0 o) r.2 last
  records h xs (close buffer (Ok n) after ∷ calls) o r last =
      rw r.2 (simp append-nil (o.valid, sym (r.1.leaves.1 xs o)))

  pub writes_streams : WritesStreams R
  writes_streams calls r =
      rw (none_written R law) at (records opened [] calls (opened_open R law) r.0 r.1)

  pub distinct_beginnings : DistinctBeginnings R
  distinct_beginnings one other r q =
      let v = writes_streams one r in
      let w = writes_streams other q in (
        (λ s. elim s [
          | inl b ↦ (stream_unique R law (accepted one) (accepted other) b.0 [] v.0 w.0
              (cc (v.1, b.1, w.1, append-nil (stream R (accepted other))))).0
          | inr b ↦ sym (stream_unique R law (accepted other) (accepted one) b.0 [] w.0 v.0
              (cc (v.1, b.1, w.1, append-nil (stream R (accepted one))))).0
        ]),
        (λ e. inl ([], cc (append-nil (wrote one), v.1, w.1))),
      )
