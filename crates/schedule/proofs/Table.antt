-- The refusal table, from a number and a place back to the fault.
use Rattle.std.proofs.Common.{◌≡◌, ℕ, Bool, true, false, cond, eqb, List, [], ◌∷◌, Ok, Err, Result, sym, refl, ap, ◌∙◌}
use Rattle.schedule.specs.declared.fault.Fault.{Fault}
use Rattle.schedule.specs.declared.fault.Fault.TheVariants.{Schedule, Piece, SecondPass, FirstPass, Closing, Lookup}
use Rattle.schedule.specs.declared.fault.ScheduleFault.TheVariants.{WidthUnknown}
use Rattle.schedule.specs.declared.fault.PieceFault.TheVariants.{OfferedTooLarge, RecordingTooLong, BufferTooShort, WidthHasNoBytes, PackingTooShort}
use Rattle.schedule.specs.declared.fault.SecondPassFault.TheVariants.{TakenTooLarge, CarrierBeyondRange}
use Rattle.schedule.specs.declared.fault.FirstPassFault.TheVariants.{PairBeyondRange, MarkBeforeBlock}
use Rattle.schedule.specs.declared.fault.ClosingFault.TheVariants.{ClosingNotZero, NoMark, CutShort}
use Rattle.schedule.specs.declared.fault.LookupFault.TheVariants.{NoSuchPlace}
use Rattle.schedule.specs.Faults.{number_place, says, judged}

-- The fault with this number and place.
abbrev pub fault_of : ℕ × ℕ → Fault
fault_of p =
    cond (eqb p.0 1) (Schedule WidthUnknown)
    (cond (eqb p.0 10) (Piece (OfferedTooLarge p.1))
    (cond (eqb p.0 11) (Piece (RecordingTooLong p.1))
    (cond (eqb p.0 12) (Piece (BufferTooShort p.1))
    (cond (eqb p.0 20) (SecondPass (TakenTooLarge p.1))
    (cond (eqb p.0 21) (SecondPass (CarrierBeyondRange p.1))
    (cond (eqb p.0 22) (FirstPass (PairBeyondRange p.1))
    (cond (eqb p.0 23) (FirstPass (MarkBeforeBlock p.1))
    (cond (eqb p.0 24) (Closing (ClosingNotZero p.1))
    (cond (eqb p.0 25) (Closing (NoMark p.1))
    (cond (eqb p.0 26) (Closing (CutShort p.1))
    (cond (eqb p.0 30) (Lookup (NoSuchPlace p.1))
    (cond (eqb p.0 40) (Piece WidthHasNoBytes) (Piece (PackingTooShort p.1))))))))))))))

pub fault_back : (f : Fault) → fault_of (number_place f) ≡ f
fault_back (Schedule WidthUnknown) = refl
fault_back (Piece (OfferedTooLarge p)) = refl
fault_back (Piece (RecordingTooLong p)) = refl
fault_back (Piece (BufferTooShort p)) = refl
fault_back (SecondPass (TakenTooLarge p)) = refl
fault_back (SecondPass (CarrierBeyondRange p)) = refl
fault_back (FirstPass (PairBeyondRange p)) = refl
fault_back (FirstPass (MarkBeforeBlock p)) = refl
fault_back (Closing (ClosingNotZero p)) = refl
fault_back (Closing (NoMark p)) = refl
fault_back (Closing (CutShort p)) = refl
fault_back (Lookup (NoSuchPlace p)) = refl
fault_back (Piece WidthHasNoBytes) = refl
fault_back (Piece (PackingTooShort p)) = refl

-- Answers that say the same are the same.
pub says_one : {X : Type 0} (a b : Result X Fault) → says a ≡ says b → a ≡ b
says_one (Ok x) (Ok y) e = cc
says_one (Ok x) (Err f) e = absurd cc
says_one (Err f) (Ok y) e = absurd cc
says_one (Err f) (Err g) e =
    let same : number_place f ≡ number_place g = cc in
    ap Err (sym (fault_back f) ∙ ap fault_of same ∙ fault_back g)

-- Rows whose number and place are those of a fault: some answer says what they come to.
abbrev pub Listed : List (ℕ × ℕ × Bool) → Type 0
Listed [] = Unit {0}
Listed (row ∷ rows) = ((f : Fault) × (number_place f ≡ (row.0, row.1))) × Listed rows

pub heard : {X : Type 0} (rows : List (ℕ × ℕ × Bool)) (x : X) → Listed rows → (answer : Result X Fault) × (says answer ≡ judged rows x)
heard [] x k = (Ok x, refl)
heard {X} (row ∷ rows) x k = go row.2 (heard rows x k.1)
  where
    go : (c : Bool) → ((answer : Result X Fault) × (says answer ≡ judged rows x)) →
        (answer : Result X Fault) × (says answer ≡ elim c [ true ↦ Err (row.0, row.1) | false ↦ judged rows x ])
    go true more = (Err k.0.0, ap Err k.0.1)
    go false more = more
