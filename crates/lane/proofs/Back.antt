-- A reader that takes joined streams hands their recordings over.
use Rattle.std.proofs.Common.{◌≡◌, ℕ, Bool, true, false, List, [], ◌∷◌, ◌++◌, map, Ok, Err, sym, refl, ap, ◌∙◌, subst, ap₂, append_assoc}
use Rattle.std.specs.List.{AllByRecursion}
use Rattle.std.proofs.lemmas.List.{map-append}
use Rattle.schedule.specs.Ranges.{Ranges, Lawful}
use Rattle.writer.specs.Stream.{Valid, stream}
use Rattle.writer.specs.Runs.{Call, Recorded, accepted, wrote}
use Rattle.writer.proofs.Recorded.{writes_streams}
use Rattle.reader.specs.declared.reading.Brought.{Brought}
use Rattle.reader.specs.declared.reading.Reading.{Reading}
use Rattle.reader.specs.Reading.{brought, started}
use Rattle.lane.specs.Reads.{Reply, Request, request, Reads, Accepted, handed}
use Rattle.lane.specs.Reads.Reply.{took, stopped}
use Rattle.lane.specs.Reads.Request.{take_it, stop_it}
use Rattle.lane.specs.Laws.{joined, ReadsBack}
use Rattle.lane.proofs.Through.{next, Accepts, Left, stream_accepted}

-- What is left of a run once a recording was handed over.
record Handed (R : Ranges) (since xs : List ℕ) (more : List Request) (replies : List Reply) : Type 0 where
  rest : List Reply
  goes_on : Reads R started rest
  asks : map request rest ≡ more
  none_refused : AllByRecursion Accepted rest → AllByRecursion Accepted replies
  hands : handed since replies ≡ xs ∷ handed [] rest

module _ (R : Ranges) where
  -- One block of them.
  module _ (b : ℕ) (bs : List ℕ) (g g' : Reading) (since xs : List ℕ) (more : List Request) (c : ℕ) (replies : List Reply) (y : Brought)
      (left : g' ≡ next R g b (brought y).1) (runs : Reads R g' replies)
      (asks : map request replies ≡ map take_it bs ++ more)
      (later : (k : Reading) (s : List ℕ) → Accepts R k s bs xs → Reads R k replies → Handed R s xs more replies) where
    abbrev out : List ℕ × Bool → List (List ℕ)
    out p = elim p.1 [ true ↦ (since ++ p.0) ∷ handed [] replies | false ↦ handed (since ++ p.0) replies ]

    one_taken : (ys : List ℕ) (end : Bool) → brought y ≡ (ys, end) → Left R (next R g b) (ys, end) since bs xs →
        Handed R since xs more (took c (Ok y) ∷ replies)
    one_taken ys true e a =
        let is = left ∙ ap (λ (p : List ℕ × Bool). next R g b p.1) e ∙ a.2 in
        record {
          rest = replies;
          goes_on = subst (λ (k : Reading). Reads R k replies) is runs;
          asks = asks ∙ ap (λ (cs : List ℕ). map take_it cs ++ more) a.0;
          none_refused = λ r. (tt, r);
          hands = ap out e ∙ ap (λ (zs : List ℕ). zs ∷ handed [] replies) (sym a.1);
        }
    one_taken ys false e a =
        let is = left ∙ ap (λ (p : List ℕ × Bool). next R g b p.1) e in
        let ih = later g' (since ++ ys) (subst (λ (k : Reading). Accepts R k (since ++ ys) bs xs) (sym is) a) runs in
        record {
          rest = ih.rest;
          goes_on = ih.goes_on;
          asks = ih.asks;
          none_refused = λ r. (tt, ih.none_refused r);
          hands = ap out e ∙ ih.hands;
        }

  takes_all : (bs : List ℕ) (g : Reading) (since xs : List ℕ) (more : List Request) (replies : List Reply) → Accepts R g since bs xs →
      Reads R g replies → map request replies ≡ map take_it bs ++ more → Handed R since xs more replies
  takes_all [] g since xs more replies a q e = absurd a
  takes_all (b ∷ bs) g since xs more [] a q e = absurd cc
  takes_all (b ∷ bs) g since xs more (stopped answer ∷ replies) a q e = absurd cc
  takes_all (b ∷ bs) g since xs more (took c (Err f) ∷ replies) a q e =
      let same : c ≡ b = cc in
      let is = (rw same at q.1).answers ∙ a.1 in
      absurd cc
  takes_all (b ∷ bs) g since xs more (took c (Ok y) ∷ replies) a q e =
      let same : c ≡ b = cc in
      let rest : map request replies ≡ map take_it bs ++ more = cc in
      let t = rw same at q.1 in
      let is = t.answers ∙ a.1 in
      let brings : brought y ≡ a.0 = cc in
      one_taken b bs g q.0 since xs more c replies y t.leaves q.2 rest
      (λ k s a r. takes_all bs k s xs more replies a r rest) a.0.0 a.0.1 brings a.2

  -- A stop of a new reader.
  stops_new : (replies : List Reply) → Reads R started replies → map request replies ≡ stop_it ∷ [] →
      AllByRecursion Accepted replies × (handed [] replies ≡ [])
  stops_new [] q e = absurd cc
  stops_new (took b answer ∷ replies) q e = absurd cc
  stops_new (stopped (Err f) ∷ replies) q e = let f = q.1.answers in absurd cc
  stops_new (stopped (Ok u) ∷ []) q e = ((tt, tt), refl)
  stops_new (stopped (Ok u) ∷ r ∷ replies) q e = absurd cc

module _ (R : Ranges) (law : Lawful R) where
  takes_joined : (xss : List (List ℕ)) → AllByRecursion (Valid R) xss → (replies : List Reply) → Reads R started replies →
      map request replies ≡ map take_it (joined (map (stream R) xss)) ++ stop_it ∷ [] → AllByRecursion Accepted replies × (handed [] replies ≡ xss)
  takes_joined [] v replies q e = stops_new R replies q e
  takes_joined (xs ∷ xss) v replies q e =
      let rest = joined (map (stream R) xss) in
      let h = takes_all R (stream R xs) started [] xs (map take_it rest ++ stop_it ∷ []) replies (stream_accepted R law xs v.0) q
      (e ∙ simp (map-append, append_assoc)) in
      let ih = takes_joined xss v.1 h.rest h.goes_on h.asks in
      (h.none_refused ih.0, h.hands ∙ ap (λ (zs : List (List ℕ)). xs ∷ zs) ih.1)

  -- The runs wrote the streams of what they accepted.
  streams_of : (runs : List (List Call)) → AllByRecursion (Recorded R) runs →
      AllByRecursion (Valid R) (map accepted runs) × (map wrote runs ≡ map (stream R) (map accepted runs))
  streams_of [] r = (tt, refl)
  streams_of (run ∷ runs) r =
      let w = writes_streams R law run r.0 in
      let more = streams_of runs r.1 in
      ((w.0, more.0), ap₂ (λ (z : List ℕ) (zs : List (List ℕ)). z ∷ zs) w.1 more.1)

  pub reads_back : ReadsBack R
  reads_back runs replies r q e =
      let s = streams_of runs r in
      takes_joined (map accepted runs) s.0 replies q (e ∙ ap (λ (zss : List (List ℕ)). map take_it (joined zss) ++ stop_it ∷ []) s.1)
