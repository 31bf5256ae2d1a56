-- What one more symbol makes of the groups, the last spill and the waiting symbol.
use Rattle.std.proofs.Common.{◌≡◌, ℕ, zero, suc, ◌+◌, ◌-◌, ◌*◌, ◌/◌, ◌%◌, ◌≤◌, List, [], ◌∷◌, ◌++◌, length, drop, sym, refl, ap, ◌∙◌, subst, append_assoc, append-nil, arith, length-append}
use Rattle.std.proofs.lemmas.List.{length-drop, drop-append-le, drop-drop}
use Rattle.schedule.specs.Ranges.{Ranges}
use Rattle.writer.specs.Stream.{first_spill, first_pass, group, groups, complete}
use Rattle.writer.specs.Holding.{last_spill, unpaired, spill_left, Holds, Grows}
use Rattle.writer.specs.declared.held.Held.{Held}

-- A symbol that waits.
pub record Waits (R : Ranges) (j y : ℕ) (ss : List ℕ) (x : ℕ) : Type 0 where
  pub groups_stay : groups R j y (ss ++ x ∷ []) ≡ groups R j y ss
  pub spill_stays : last_spill R j y (ss ++ x ∷ []) ≡ last_spill R j y ss
  pub waits : unpaired (ss ++ x ∷ []) ≡ x

pub waits : (R : Ranges) (j y : ℕ) (ss : List ℕ) (x : ℕ) → length ss % 2 ≡ 0 → Waits R j y ss x
waits R j y [] x e = record { groups_stay = refl; spill_stays = refl; waits = refl }
waits R j y (s ∷ []) x e = absurd (omega arith)
waits R j y (s ∷ t ∷ ss) x e =
    let more = waits R (suc j) (first_pass R j s t).1 ss x (omega arith) in
    record {
      groups_stay = cc;
      spill_stays = more.spill_stays;
      waits = more.waits;
    }

-- A symbol that joins the waiting one in pair k.
pub record Joins (R : Ranges) (j k y : ℕ) (ss : List ℕ) (x : ℕ) : Type 0 where
  pub groups_grow :
      groups R j y (ss ++ x ∷ []) ≡ groups R j y ss ++ group R k (first_pass R k (unpaired ss) x).0 (last_spill R j y ss)
  pub new_spill : last_spill R j y (ss ++ x ∷ []) ≡ (first_pass R k (unpaired ss) x).1
  pub none_waits : unpaired (ss ++ x ∷ []) ≡ 0

pub joins : (R : Ranges) (j k y : ℕ) (ss : List ℕ) (x : ℕ) → length ss % 2 ≡ 1 → k ≡ j + length ss / 2 → Joins R j k y ss x
joins R j k y [] x e f = absurd (omega arith)
joins R j k y (s ∷ []) x e f =
    subst (λ (i : ℕ). Joins R j i y (s ∷ []) x) (omega arith)
    (record { groups_grow = append-nil (group R j (first_pass R j s x).0 y); new_spill = refl; none_waits = refl })
joins R j k y (s ∷ t ∷ ss) x e f =
    let more = joins R (suc j) k (first_pass R j s t).1 ss x (omega arith) (omega arith) in
    record {
      groups_grow = rw (append_assoc, more.groups_grow) refl;
      new_spill = more.new_spill;
      none_waits = more.none_waits;
    }

-- Two symbols that make pair k, behind pairs j to k - 1.
pub record PairJoins (R : Ranges) (j k y s t : ℕ) (ss : List ℕ) : Type 0 where
  pub groups_grow : groups R j y (ss ++ s ∷ t ∷ []) ≡ groups R j y ss ++ group R k (first_pass R k s t).0 (last_spill R j y ss)
  pub new_spill : last_spill R j y (ss ++ s ∷ t ∷ []) ≡ (first_pass R k s t).1

pub pair_joins : (R : Ranges) (j k y s t : ℕ) (ss : List ℕ) → length ss ≡ 2 * (k - j) → j ≤ k → PairJoins R j k y s t ss
pair_joins R j k y s t ss e h =
    let one = waits R j y ss s (omega arith) in
    let long = length-append ss (s ∷ []) in
    let two = joins R j k y (ss ++ s ∷ []) t (omega arith) (omega arith) in
    let both : (ss ++ s ∷ []) ++ t ∷ [] ≡ ss ++ s ∷ t ∷ [] = append_assoc ss (s ∷ []) (t ∷ []) in
    record {
      groups_grow = rw (both, one.groups_stay, one.spill_stays, one.waits) at two.groups_grow;
      new_spill = rw (both, one.waits) at two.new_spill;
    }

pub same_first : (l : ℕ) (ss new : List ℕ) → l ≤ length ss → first_spill l (ss ++ new) ≡ first_spill l ss
same_first zero ss new h = refl
same_first (suc l) [] new h = absurd (omega arith)
same_first (suc l) (s ∷ ss) new h = refl

module _ (R : Ranges) (ss : List ℕ) (h : Held) (holds : Holds R ss h) (x : ℕ) where
  lead_drop : R.lead ≤ h.count → drop R.lead (ss ++ x ∷ []) ≡ drop R.lead ss ++ x ∷ []
  lead_drop l = drop-append-le R.lead ss (x ∷ []) (omega arith)

  lead_spill : R.lead ≤ h.count → first_spill R.lead (ss ++ x ∷ []) ≡ first_spill R.lead ss
  lead_spill l = same_first R.lead ss (x ∷ []) (omega arith)

  one_more : h.count + 1 ≡ length (ss ++ x ∷ [])
  one_more = omega (arith, length-append ss (x ∷ []))

  pub held_waits : R.lead ≤ h.count → (h.count - R.lead) % 2 ≡ 0 →
      Grows R ss (x ∷ []) (record { count = h.count + 1; spill = h.spill; waiting = x }) []
  held_waits l e =
      let w = waits R 0 (first_spill R.lead ss) (drop R.lead ss) x (omega (arith, length-drop R.lead ss)) in
      record {
        holds = record {
          count = one_more;
          spill = rw (lead_drop l, lead_spill l) (cc w.spill_stays);
          waiting = rw (lead_drop l) (sym w.waits);
        };
        writes = rw (lead_drop l, lead_spill l) (cc (w.groups_stay, append-nil (complete R ss)));
      }

  pub held_joins : R.lead ≤ h.count → (h.count - R.lead) % 2 ≡ 1 → (k : ℕ) → k ≡ (h.count - R.lead) / 2 →
      (p : ℕ × ℕ) → p ≡ first_pass R k h.waiting x → (written : List ℕ) → written ≡ group R k p.0 h.spill →
      Grows R ss (x ∷ []) (record { count = h.count + 1; spill = p.1; waiting = 0 }) written
  held_joins l e k f p pass written second =
      let d = drop R.lead ss in
      let y = first_spill R.lead ss in
      let w = joins R 0 k y d x (omega (arith, length-drop R.lead ss)) (omega (arith, length-drop R.lead ss)) in
      let same : p ≡ first_pass R k (unpaired d) x = pass ∙ ap (λ (n : ℕ). first_pass R k n x) holds.waiting in
      record {
        holds = record {
          count = one_more;
          spill = rw (lead_drop l, lead_spill l) (cc w.new_spill);
          waiting = rw (lead_drop l) (sym w.none_waits);
        };
        writes =
            rw (lead_drop l, lead_spill l)
            (cc w.groups_grow);
      }

-- Some symbols, and then more.
pub grows_on : (R : Ranges) (ss new more : List ℕ) (h h' : Held) (written then : List ℕ) →
    Grows R ss new h written → Grows R (ss ++ new) more h' then → Grows R ss (new ++ more) h' (written ++ then)
grows_on R ss new more h h' written then one two =
    record {
      holds = rw append_assoc at two.holds;
      writes = cc (append_assoc ss new more, append_assoc (complete R ss) written then);
    }

pub grows_none : (R : Ranges) (ss : List ℕ) (h : Held) → Holds R ss h → Grows R ss [] h []
grows_none R ss h holds =
    record { holds = rw append-nil holds; writes = simp append-nil }

-- Pair i, of two symbols.
pub pair_grows : (R : Ranges) (ss : List ℕ) (i s t : ℕ) → length ss ≡ 2 * i + R.lead →
    Grows R ss (s ∷ t ∷ []) (record { count = length ss + 1 + 1; spill = (first_pass R i s t).1; waiting = 0 })
    (group R i (first_pass R i s t).0 (spill_left R ss))
pair_grows R ss i s t long =
    let h : Held = record { count = length ss; spill = spill_left R ss; waiting = unpaired (drop R.lead ss) } in
    let one = held_waits R ss h (record { count = refl; spill = refl; waiting = refl }) s (omega arith) (omega arith) in
    grows_on R ss (s ∷ []) (t ∷ []) _ _ [] _ one
    (held_joins R (ss ++ s ∷ []) _ one.holds t (omega arith) (omega arith) i (omega arith) _ refl _ refl)

-- What stands behind a place also stands behind a later one.
pub behind_later : (b b' : List ℕ) (m n : ℕ) → m ≤ n → drop m b ≡ drop m b' → drop n b ≡ drop n b'
behind_later b b' m n h e =
    let k : m + (n - m) ≡ n = omega arith in
    cc (drop-drop (n - m) m b, drop-drop (n - m) m b')
