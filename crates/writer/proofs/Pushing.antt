-- What symbols make of what a recording holds, and what they write: both go by what is held alone.
use Rattle.std.proofs.Common.{◌≡◌, ℕ, ◌+◌, ◌-◌, ◌/◌, ◌%◌, List, [], ◌∷◌, ◌++◌, length, refl, ap, ◌∙◌, inl, inr, arith}
use Rattle.std.proofs.lemmas.Bool.{cases_lt}
use Rattle.std.proofs.lemmas.List.{length-append}
use Rattle.schedule.specs.Ranges.{Ranges, Lawful}
use Rattle.writer.specs.declared.held.Held.{Held}
use Rattle.writer.specs.Stream.{marks, first_pass, group, complete, stream}
use Rattle.writer.specs.Holding.{Holds, Open, Grows}
use Rattle.writer.specs.Calls.{offer_writes, close_writes}
use Rattle.writer.proofs.Growing.{held_waits, held_joins, grows_on, grows_none}
use Rattle.writer.proofs.Closing.{closes}
use Rattle.writer.proofs.Shape.{complete_length, stream_shape}

-- What is held after these symbols, and what they write, whatever was taken before.
pub record Pushed (R : Ranges) (h : Held) (new : List ℕ) : Type 0 where
  pub after : Held
  pub written : List ℕ
  pub grows : (ss : List ℕ) → Holds R ss h → Grows R ss new after written

-- The symbol that stands before the first pair.
leading : (R : Ranges) → R.lead ≡ 1 → (ss : List ℕ) (x n : ℕ) → length ss ≡ 0 → n ≡ 1 →
    Grows R ss (x ∷ []) (record { count = n; spill = x; waiting = 0 }) []
leading R e (s ∷ ss) x n h k = absurd (omega arith)
leading R e [] x n h k = record { holds = record { count = k; spill = rw e refl; waiting = rw e refl }; writes = rw e refl }

module _ (R : Ranges) (law : Lawful R) where
  -- One symbol.
  push : (h : Held) (x : ℕ) → Pushed R h (x ∷ [])
  push h x =
      let high = law.lead_high in
      elim (cases_lt h.count R.lead) [
        | inl l ↦ record {
          after = record { count = h.count + 1; spill = x; waiting = 0 };
          written = [];
          grows = λ ss holds. leading R (omega arith) ss x (h.count + 1) (omega arith) (omega arith);
        }
        | inr l ↦ elim (cases_lt ((h.count - R.lead) % 2) 1) [
          | inl e ↦ record {
            after = record { count = h.count + 1; spill = h.spill; waiting = x };
            written = [];
            grows = λ ss holds. held_waits R ss h holds x l (omega arith);
          }
          | inr e ↦
              let k = (h.count - R.lead) / 2 in
              let p = first_pass R k h.waiting x in
              record {
                after = record { count = h.count + 1; spill = p.1; waiting = 0 };
                written = group R k p.0 h.spill;
                grows = λ ss holds. held_joins R ss h holds x l (omega arith) k refl p refl (group R k p.0 h.spill) refl;
              }
        ]
      ]

  -- A list of symbols.
  pub push_all : (h : Held) (new : List ℕ) → Pushed R h new
  push_all h [] = record { after = h; written = []; grows = λ ss holds. grows_none R ss h holds }
  push_all h (x ∷ new) =
      let one = push h x in
      let more = push_all one.after new in
      record {
        after = more.after;
        written = one.written ++ more.written;
        grows = λ ss holds.
            let g = one.grows ss holds in
            grows_on R ss (x ∷ []) new one.after more.after one.written more.written g (more.grows (ss ++ x ∷ []) g.holds);
      }

  -- As many blocks are written as an offer of these symbols writes.
  pub pushed_length : (h : Held) (new : List ℕ) (p : Pushed R h new) (ss : List ℕ) → Holds R ss h →
      length p.written ≡ offer_writes R h.count (length new)
  pushed_length h new p ss holds =
      let long = ap length (p.grows ss holds).writes in
      let before = complete_length R law.lead_high ss in
      let now = complete_length R law.lead_high (ss ++ new) in
      omega (arith, length-append ss new, length-append (complete R ss) p.written)

  -- What the marks and the closing group write.
  pub record Ended (h : Held) : Type 0 where
    pub written : List ℕ
    pub ends : (ss : List ℕ) → Holds R ss h → stream R ss ≡ complete R ss ++ written

  pub end : (h : Held) → Ended h
  end h =
      let p = push_all h (marks R h.count) in
      let k = (p.after.count - R.lead) / 2 in
      let last = group R k 0 p.after.spill in
      record {
        written = p.written ++ last;
        ends = λ ss holds.
            closes R ss h p.after p.written holds (p.grows ss holds) k refl last refl;
      }

  pub ended_length : (h : Held) (p : Ended h) (ss : List ℕ) → Open R ss h → length p.written ≡ close_writes R h.count
  ended_length h p ss o =
      let long = ap length (p.ends ss o.holds) ∙ length-append (complete R ss) p.written in
      let before = complete_length R law.lead_high ss in
      let all = (stream_shape R law ss o.valid).long ∙ ap (λ (n : ℕ). n + 1) (length-append ss (marks R (length ss))) in
      let same : length (marks R h.count) ≡ length (marks R (length ss)) = ap (λ (n : ℕ). length (marks R n)) o.holds.count in
      omega arith
