-- Every list of takes and stops has one run.
use Rattle.std.proofs.Common.{◌≡◌, ℕ, zero, suc, ◌+◌, ◌*◌, ◌<◌, Bool, true, false, cond, ◌||◌, eqb, ltb, List, [], ◌∷◌, ◌++◌, Some, None, Ok, Err, Option, Result, sym, refl, ap, ◌∙◌, arith}
use Rattle.std.proofs.lemmas.Bool.Decides.{nat_tests}
use Rattle.schedule.specs.declared.fault.Fault.{Fault}
use Rattle.schedule.specs.declared.fault.Fault.TheVariants.{SecondPass, FirstPass, Closing}
use Rattle.schedule.specs.declared.fault.SecondPassFault.TheVariants.{TakenTooLarge, CarrierBeyondRange}
use Rattle.schedule.specs.declared.fault.FirstPassFault.TheVariants.{PairBeyondRange, MarkBeforeBlock}
use Rattle.schedule.specs.declared.fault.ClosingFault.TheVariants.{ClosingNotZero, NoMark, CutShort}
use Rattle.schedule.specs.Faults.{number_place, says, judged}
use Rattle.schedule.specs.Ranges.{Ranges, Lawful, end_mark}
use Rattle.schedule.proofs.Judged.{judged_clear, clear_judged}
use Rattle.schedule.proofs.Table.{fault_of, fault_back, says_one, Listed, heard}
use Rattle.writer.proofs.Runs.{exactly_one}
use Rattle.reader.specs.declared.reading.Brought.{Brought}
use Rattle.reader.specs.declared.reading.Brought.TheVariants.{Nothing, One, Two, End, OneThenEnd}
use Rattle.reader.specs.declared.reading.Reading.{Reading}
use Rattle.reader.specs.Reading.{brought, completes, lead_symbol, found, hands_over, pair_rows_before, started, InRange}
use Rattle.reader.specs.Calls.{says_brought, whole_rows, whole_brings, take_rows, take_brings, after_whole, after_take}
use Rattle.reader.proofs.Taking.{reader_at, group_in_range}
use Rattle.lane.specs.Reads.{Reply, Request, request, ReplyMeets, stopping}
use Rattle.lane.specs.Reads.Reply.{took, stopped}
use Rattle.lane.specs.Reads.Request.{take_it, stop_it}
use Rattle.lane.specs.Laws.{EveryListReads}

-- What brings these blocks, with an end behind them or without.
brings_back : List ℕ → Bool → Brought
brings_back [] false = Nothing
brings_back [] true = End
brings_back (x ∷ []) false = One x
brings_back (x ∷ []) true = OneThenEnd x
brings_back (x ∷ y ∷ _) _ = Two x y

brought_back : (x : Brought) → brings_back (brought x).0 (brought x).1 ≡ x
unfolding brings_back
brought_back Nothing = refl
brought_back (One x) = refl
brought_back (Two x y) = refl
brought_back End = refl
brought_back (OneThenEnd x) = refl

-- Answers to a take that say the same are the same.
says_brought_one : (a b : Result Brought Fault) → says_brought a ≡ says_brought b → a ≡ b
says_brought_one (Ok x) (Ok y) e =
    let same : brought x ≡ brought y = cc in
    ap Ok (sym (brought_back x) ∙ ap (λ (p : List ℕ × Bool). brings_back p.0 p.1) same ∙ brought_back y)
says_brought_one (Ok x) (Err f) e = absurd cc
says_brought_one (Err f) (Ok y) e = absurd cc
says_brought_one (Err f) (Err g) e =
    let same : number_place f ≡ number_place g = cc in
    ap Err (sym (fault_back f) ∙ ap fault_of same ∙ fault_back g)

-- One symbol or two, each an end mark or not, are handed over by some answer.
one_handed : (s : ℕ) (a : Bool) → (x : Brought) × (brought x ≡ (cond a [] (s ∷ []), a || false))
one_handed s true = (End, refl)
one_handed s false = (One s, refl)

two_handed : (s t : ℕ) (a b : Bool) → (x : Brought) × (brought x ≡ (cond a [] (s ∷ cond b [] (t ∷ [])), a || (b || false)))
two_handed s t true b = (End, refl)
two_handed s t false true = (OneThenEnd s, refl)
two_handed s t false false = (Two s t, refl)

lead_handed : (R : Ranges) (lead y : ℕ) → (x : Brought) × (brought x ≡ hands_over R (lead_symbol lead y))
lead_handed R zero y = (Nothing, refl)
lead_handed R (suc _) y = one_handed y (eqb y (end_mark R))

-- So is what a group makes known, and what a take brings.
found_handed : (R : Ranges) (j before w : ℕ) → (x : Brought) × (brought x ≡ hands_over R (found R j before w))
found_handed R zero before w = lead_handed R R.lead _
found_handed R (suc i) before w = two_handed _ _ (eqb _ (end_mark R)) (eqb _ (end_mark R))

whole_handed : (R : Ranges) (g : Reading) (w : Option ℕ) → (x : Brought) × (brought x ≡ whole_brings R g w)
whole_handed R g None = (Nothing, refl)
whole_handed R g (Some w) = found_handed R g.step g.before w

-- The rows of a take are rows of the table.
listed_append : (rows more : List (ℕ × ℕ × Bool)) → Listed rows → Listed more → Listed (rows ++ more)
listed_append [] more k l = l
listed_append (row ∷ rows) more k l = (k.0, listed_append rows more k.1 l)

pair_listed : (R : Ranges) (place j before w : ℕ) → Listed (pair_rows_before R place j before w)
pair_listed R place zero before w = tt
pair_listed R place (suc i) before w = ((FirstPass (PairBeyondRange place), refl), ((FirstPass (MarkBeforeBlock place), refl), tt))

whole_listed : (R : Ranges) (g : Reading) (w : Option ℕ) → Listed (whole_rows R g w)
whole_listed R g None = tt
whole_listed R g (Some w) = (
  (SecondPass (CarrierBeyondRange _), refl),
  listed_append (pair_rows_before R g.count g.step g.before w) _
      (pair_listed R g.count g.step g.before w)
      ((Closing (ClosingNotZero _), refl), ((Closing (NoMark _), refl), tt)),
)

-- Some answer to a take says what its rows come to.
heard_take : (R : Ranges) (g : Reading) (b : ℕ) → (answer : Result Brought Fault) × (says_brought answer ≡ judged (take_rows R g b) (take_brings R g b))
heard_take R g b =
    let w = completes R.lead R.base g.step g.low b in
    let a = heard (take_rows R g b) (take_brings R g b) ((SecondPass (TakenTooLarge _), refl), whole_listed R g w) in
    go a.0 a.1 (whole_handed R g w)
  where
    go : (answer : Result (List ℕ × Bool) Fault) → says answer ≡ judged (take_rows R g b) (take_brings R g b) →
        ((x : Brought) × (brought x ≡ take_brings R g b)) →
        (answer : Result Brought Fault) × (says_brought answer ≡ judged (take_rows R g b) (take_brings R g b))
    go (Ok y) e x = (Ok x.0, ap Ok (x.1 ∙ sym (judged_clear (take_rows R g b) (take_brings R g b) y e).1) ∙ e)
    go (Err f) e x = (Err f, e)

module _ (R : Ranges) (law : Lawful R) where
  -- After an accepted block the reader's numbers are in range.
  whole_in_range : (lead n b j before : ℕ) (low : Option ℕ) (x : Brought) → let g = reader_at n j before low in
      let w = completes lead R.base j low b in R.lead ≡ lead → InRange R g → b < R.base →
      Ok (brought x) ≡ judged (whole_rows R g w) (whole_brings R g w) → InRange R (after_whole R g b w (brought x).1)
  whole_in_range zero n b zero before None x is r small e =
      group_in_range R law (reader_at n zero before None) before b (brought x) e (omega arith) (brought x).1 refl
  whole_in_range (suc l) n b zero before None x is r small e =
      record { step_high = r.step_high; before_below = r.before_below; low_below = (small, omega arith); counted = omega arith }
  whole_in_range lead n b (suc j) before None x is r small e =
      record { step_high = r.step_high; before_below = r.before_below; low_below = (small, omega arith); counted = omega arith }
  whole_in_range lead n b j before (Some low) x is r small e =
      group_in_range R law (reader_at n j before (Some low)) before (b * R.base + low) (brought x) e
      (omega (arith, r.low_below.1)) (brought x).1 refl

  take_in_range : (g : Reading) (b : ℕ) (answer : Result Brought Fault) → says_brought answer ≡ judged (take_rows R g b) (take_brings R g b) →
      InRange R g → InRange R (after_take R g b answer)
  take_in_range g b (Err f) e r = r
  take_in_range g b (Ok x) e r =
      let w = completes R.lead R.base g.step g.low b in
      let c = judged_clear (take_rows R g b) (take_brings R g b) (brought x) e in
      let t = c.0.0 in
      let small : b < R.base = grind (arith, nat_tests) in
      whole_in_range R.lead g.count b g.step g.before g.low x refl r small (ap Ok c.1 ∙ sym (clear_judged (whole_rows R g w) (whole_brings R g w) c.0.1))

  -- Every take and every stop has an answer.
  answer_request : (g : Reading) (a : Request) → Unit {0} → (c : Reply) × (g' : Reading) × (request c ≡ a) × ReplyMeets R g c g'
  answer_request g (take_it b) _ =
      let a = heard_take R g b in
      (took b a.0, after_take R g b a.0, refl, record { answers = a.1; leaves = refl; in_range = take_in_range g b a.0 a.1 })
  answer_request g stop_it _ =
      let a = heard ((26, g.count, ltb 0 g.count) ∷ []) tt ((Closing (CutShort _), refl), tt) in
      (stopped a.0, g, refl, record { answers = a.1; leaves = refl })

  -- Two replies to the same are the same, and leave the same.
  once : (g : Reading) (c d : Reply) (g' g'' : Reading) → Unit {0} → request c ≡ request d → ReplyMeets R g c g' → ReplyMeets R g d g'' →
      (c ≡ d) × (stopping c ≡ false → g' ≡ g'')
  once g (took b x) (took b' y) g' g'' _ e p q =
      let same_block : b' ≡ b = cc in
      let q' = rw same_block at q in
      let same = says_brought_one x y (p.answers ∙ sym q'.answers) in
      (cc, λ _. p.leaves ∙ ap (after_take R g b) same ∙ sym q'.leaves)
  once g (stopped x) (stopped y) g' g'' _ e p q =
      (ap stopped (says_one x y (p.answers ∙ sym q.answers)), λ _. p.leaves ∙ sym q.leaves)
  once g (took _ _) (stopped _) g' g'' _ e p q = absurd cc
  once g (stopped _) (took _ _) g' g'' _ e p q = absurd cc

  pub every_list_reads : EveryListReads R
  every_list_reads =
      exactly_one (ReplyMeets R) stopping request (λ _. Unit {0}) answer_request (λ g c g' _ _ _. tt) once started tt
