-- A reader accepts streams, and nothing else.
use Rattle.std.proofs.Common.{◌≡◌, ℕ, zero, suc, ◌+◌, ◌*◌, ◌/◌, ◌<◌, ◌≤◌, Bool, true, false, List, [], ◌∷◌, ◌++◌, map, length, Some, None, Ok, Err, Option, Result, sym, refl, ap, ◌∙◌, subst, ap₂, append_assoc, append-nil, arith}
use lib.Arith.{digits_div, digits_mod}
use Rattle.std.specs.List.{AllByRecursion}
use Rattle.std.proofs.lemmas.List.{length-append}
use Rattle.std.proofs.lemmas.Bool.{false≢true}
use Rattle.std.proofs.lemmas.Bool.Decides.{nat_tests}
use Rattle.schedule.specs.Ranges.{Ranges, Lawful}
use Rattle.schedule.specs.Faults.{judged}
use Rattle.schedule.proofs.Judged.{judged_clear, clear_judged}
use Rattle.writer.specs.Stream.{Valid, in_blocks, stream}
use Rattle.writer.proofs.Shape.{two_blocks, stream_shape}
use Rattle.writer.proofs.Unique.{stream_unique}
use Rattle.reader.specs.declared.reading.Brought.{Brought}
use Rattle.reader.specs.declared.reading.Reading.{Reading}
use Rattle.reader.specs.Reading.{brought, completes, started, InRange}
use Rattle.reader.specs.Calls.{whole_rows, whole_brings, after_group, after_whole, take_rows, take_brings, Takes}
use Rattle.reader.proofs.Naming.{stop_rows}
use Rattle.reader.proofs.Taking.{reader_at, Shown, shown, started_in_range}
use Rattle.lane.specs.Reads.{Reply, Reads, StoppedAtLast, taken, handed}
use Rattle.lane.specs.Reads.Reply.{took, stopped}
use Rattle.lane.specs.Laws.{joined, ReadsOnlyStreams}
use Rattle.lane.proofs.Inside.{Inside, Moves, first_moves, group_moves}

-- An accepted block, by the group that it completes or not.
record Taken (R : Ranges) (g : Reading) (b : ℕ) (o : Option ℕ) (x : Brought) (g' : Reading) : Type 0 where
  answers : Ok (brought x) ≡ judged (whole_rows R g o) (whole_brings R g o)
  left : g' ≡ after_whole R g b o (brought x).1

module _ (R : Ranges) (law : Lawful R) where
  taken_as : (g : Reading) (b : ℕ) (o : Option ℕ) (x : Brought) (g' : Reading) → completes R.lead R.base g.step g.low b ≡ o →
      Takes R g b (Ok x) g' → Taken R g b o x g'
  taken_as g b o x g' e t =
      let c = judged_clear (take_rows R g b) (take_brings R g b) (brought x) t.answers in
      subst (λ (p : Option ℕ). Taken R g b p x g') e
      (record { answers = ap Ok c.1 ∙ sym (clear_judged (whole_rows R g _) (take_brings R g b) c.0.1); left = t.leaves })

  -- What an accepted block makes of a reader inside a stream.
  record Moved (bs since : List ℕ) (b : ℕ) (x : Brought) (g' : Reading) : Type 0 where
    moves : Moves R g' (bs ++ b ∷ []) since (brought x)
    new_at_the_end : (brought x).1 ≡ true → g' ≡ started

  moves_as : (g g' : Reading) (bs since ys : List ℕ) (end : Bool) → (end ≡ false → g ≡ g') → Moves R g bs since (ys, end) →
      Moves R g' bs since (ys, end)
  moves_as g g' bs since ys true e m = m
  moves_as g g' bs since ys false e m = subst (λ (k : Reading). Inside R k bs (since ++ ys)) (e refl) m

  -- Behind a group, and inside one.
  behind : (g : Reading) (bs since : List ℕ) (b w : ℕ) (x : Brought) (g' : Reading) → completes R.lead R.base g.step g.low b ≡ Some w →
      Takes R g b (Ok x) g' → let j = g.step in
      (Shown R g.count j g.before w (brought x) → Moves R (reader_at 0 (suc j) (w / R.spill j) None) (bs ++ b ∷ []) since (brought x)) →
      Moved bs since b x g'
  behind g bs since b w x g' e t m =
      let c = taken_as g b (Some w) x g' e t in
      record {
        moves = moves_as (after_group R g w false) g' (bs ++ b ∷ []) since (brought x).0 (brought x).1
            (λ f. sym (c.left ∙ ap (after_group R g w) f))
            (m (shown R law g.count g.step g.before w (brought x) c.answers));
        new_at_the_end = λ f. c.left ∙ ap (after_group R g w) f;
      }

  inside_group : (g : Reading) (bs since : List ℕ) (b : ℕ) (x : Brought) (g' : Reading) → completes R.lead R.base g.step g.low b ≡ None →
      Takes R g b (Ok x) g' → Inside R (reader_at 0 g.step g.before (Some b)) (bs ++ b ∷ []) since → Moved bs since b x g'
  inside_group g bs since b x g' e t i =
      let c = taken_as g b None x g' e t in
      let nothing : brought x ≡ ([], false) = (judged_clear [] _ _ c.answers).1 in
      record {
        moves = rw (nothing, c.left, append-nil) i;
        new_at_the_end = λ f. absurd (false≢true (sym (ap (λ (p : List ℕ × Bool). p.1) nothing) ∙ f));
      }

  -- The two blocks of a group.
  both_blocks : (j low b : ℕ) → low < R.base → 1 ≤ j + R.lead → in_blocks R.lead R.base j (b * R.base + low) ≡ low ∷ b ∷ []
  both_blocks j low b h k =
      two_blocks R.lead R.base j (b * R.base + low) k ∙ ap₂ (λ (u v : ℕ). u ∷ v ∷ []) (digits_mod b h) (digits_div b h)

  first_at : (l : ℕ) → R.lead ≡ l → (n before b : ℕ) (bs since : List ℕ) (x : Brought) (g' : Reading) → (bs ≡ []) × (since ≡ []) →
      Takes R (reader_at n zero before None) b (Ok x) g' → Moved bs since b x g'
  first_at zero e n before b bs since x g' i t =
      behind (reader_at n zero before None) bs since b b x g' (ap (λ (l : ℕ). completes l R.base zero None b) e) t
      (λ h. rw (i.0, i.1) (rw (ap (λ (l : ℕ). in_blocks l R.base 0 b) e) at (first_moves R law b n before (brought x) h)))
  first_at (suc l) e n before b bs since x g' i t =
      inside_group (reader_at n zero before None) bs since b x g' (ap (λ (l : ℕ). completes l R.base zero None b) e) t
      (ap (λ (ys : List ℕ). ys ++ b ∷ []) i.0, i.1)

  moved : (n j before : ℕ) (low : Option ℕ) (bs since : List ℕ) (b : ℕ) (x : Brought) (g' : Reading) → let g = reader_at n j before low in
      InRange R g → Inside R g bs since → Takes R g b (Ok x) g' → Moved bs since b x g'
  moved n zero before None bs since b x g' r i t = first_at R.lead refl n before b bs since x g' i t
  moved n (suc j) before None bs since b x g' r i t = inside_group (reader_at n (suc j) before None) bs since b x g' refl t (bs, refl, i)
  moved n zero before (Some low) bs since b x g' r i t =
      let w = b * R.base + low in
      behind (reader_at n zero before (Some low)) bs since b w x g' refl t
      (λ h. rw (i.0, i.1, ← both_blocks 0 low b r.low_below.0 r.low_below.1) (first_moves R law w n before (brought x) h))
  moved n (suc j) before (Some low) bs since b x g' r i t =
      let w = b * R.base + low in
      behind (reader_at n (suc j) before (Some low)) bs since b w x g' refl t
      (λ h. rw (i.1, append_assoc, ← both_blocks (suc j) low b r.low_below.0 r.low_below.1)
      (group_moves R law n j before w r.before_below r.step_high i.0 since i.2 (brought x) h))

  abbrev ReadsStreams : List ℕ → List ℕ → List Reply → Type 0
  ReadsStreams bs since rs = (bs ++ taken rs ≡ joined (map (stream R) (handed since rs))) × AllByRecursion (Valid R) (handed since rs)

  -- A stop between streams: nothing is left over.
  none_left : (n j before : ℕ) (low : Option ℕ) (bs since : List ℕ) → let g = reader_at n j before low in
      InRange R g → Inside R g bs since → n ≡ 0 → bs ≡ []
  none_left n zero before None bs since r i e = i.0
  none_left n (suc j) before None bs since r i e = absurd (omega (arith, r.counted))
  none_left n zero before (Some low) bs since r i e = absurd (omega (arith, r.counted))
  none_left n (suc j) before (Some low) bs since r i e = absurd (omega (arith, r.counted))

  stop_count : (g : Reading) → ◌≡◌ {A = Result (Unit {0}) (ℕ × ℕ)} (Ok tt) (judged (stop_rows g) tt) → g.count ≡ 0
  stop_count g e = let c = (judged_clear (stop_rows g) tt tt e).0.0 in grind (arith, nat_tests)

  reads : (g : Reading) (bs since : List ℕ) (rs : List Reply) → InRange R g → Inside R g bs since → Reads R g rs → StoppedAtLast rs →
      ReadsStreams bs since rs
  reads g bs since [] r i q last = absurd last
  reads g bs since (took b (Err f) ∷ rs) r i q last =
      reads q.0 bs since rs (q.1.in_range r) (subst (λ (k : Reading). Inside R k bs since) (sym q.1.leaves) i) q.2 last
  reads g bs since (took b (Ok x) ∷ rs) r i q last =
      let t = q.1 in
      let m = moved g.count g.step g.before g.low bs since b x q.0 r i t in
      go (brought x).0 (brought x).1 m.moves m.new_at_the_end
      (λ j. reads q.0 (bs ++ b ∷ []) (since ++ (brought x).0) rs (t.in_range r) j q.2 last)
      (λ e. reads started [] [] rs (started_in_range R law) (refl, refl) (subst (λ (k : Reading). Reads R k rs) e q.2) last)
    where
      go : (ys : List ℕ) (end : Bool) → Moves R q.0 (bs ++ b ∷ []) since (ys, end) → (end ≡ true → q.0 ≡ started) →
          (Inside R q.0 (bs ++ b ∷ []) (since ++ ys) → ReadsStreams (bs ++ b ∷ []) (since ++ ys) rs) →
          (q.0 ≡ started → ReadsStreams [] [] rs) →
          let out : List (List ℕ) = elim end [ true ↦ (since ++ ys) ∷ handed [] rs | false ↦ handed (since ++ ys) rs ] in
          (bs ++ b ∷ taken rs ≡ joined (map (stream R) out)) × AllByRecursion (Valid R) out
      go ys true v new on again =
          let ih = again (new refl) in (
            sym (append_assoc bs (b ∷ []) (taken rs)) ∙ ap (λ (cs : List ℕ). cs ++ taken rs) v.1
                ∙ ap (λ (cs : List ℕ). stream R (since ++ ys) ++ cs) ih.0,
            (v.0, ih.1),
          )
      go ys false v new on again = let ih = on v in (sym (append_assoc bs (b ∷ []) (taken rs)) ∙ ih.0, ih.1)
  reads g bs since (stopped (Err f) ∷ rs) r i q last =
      reads g bs since rs r i (subst (λ (k : Reading). Reads R k rs) q.1.leaves q.2) last
  reads g bs since (stopped (Ok u) ∷ rs) r i q last =
      let none = none_left g.count g.step g.before g.low bs since r i (stop_count g q.1.answers) in
      subst (ReadsStreams bs since) (sym q.2) (append-nil bs ∙ none, tt)

  some_blocks : (xs : List ℕ) → Valid R xs → 0 < length (stream R xs)
  some_blocks xs v = omega (arith, (stream_shape R law xs v).long)

  pub joined_unique : (xss yss : List (List ℕ)) → AllByRecursion (Valid R) xss → AllByRecursion (Valid R) yss →
      joined (map (stream R) xss) ≡ joined (map (stream R) yss) → xss ≡ yss
  joined_unique [] [] v w e = refl
  joined_unique [] (ys ∷ yss) v w e =
      absurd (omega (arith, ap length e, length-append (stream R ys) (joined (map (stream R) yss)), some_blocks ys w.0))
  joined_unique (xs ∷ xss) [] v w e =
      absurd (omega (arith, ap length e, length-append (stream R xs) (joined (map (stream R) xss)), some_blocks xs v.0))
  joined_unique (xs ∷ xss) (ys ∷ yss) v w e =
      let u = stream_unique R law xs ys (joined (map (stream R) xss)) (joined (map (stream R) yss)) v.0 w.0 e in
      ap₂ (λ (q : List ℕ) (qs : List (List ℕ)). q ∷ qs) u.0 (joined_unique xss yss v.1 w.1 u.1)

  pub reads_only_streams : ReadsOnlyStreams R
  reads_only_streams rs q last =
      let h = reads started [] [] rs (started_in_range R law) (refl, refl) q last in
      record { streams = h.0; valid = h.1; no_other = λ others v e. joined_unique others (handed [] rs) v h.1 (e ∙ h.0) }
