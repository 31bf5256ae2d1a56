-- The refusal table: the number that each fault returns, and its place.
use Rattle.std.specs.Prelude.{ℕ, Bool, true, false, List, [], ◌∷◌, ◌++◌, codes, Ok, Err, Result}
use Rattle.std.specs.Fmt.{decimal}
use Rattle.schedule.specs.declared.fault.Fault.{Fault}
use Rattle.schedule.specs.declared.fault.Fault.TheVariants.{Schedule, Piece, SecondPass, FirstPass, Closing, Lookup}
use Rattle.schedule.specs.declared.fault.ScheduleFault.TheVariants.{WidthUnknown}
use Rattle.schedule.specs.declared.fault.PieceFault.TheVariants.{OfferedTooLarge, RecordingTooLong, BufferTooShort, WidthHasNoBytes, PackingTooShort}
use Rattle.schedule.specs.declared.fault.SecondPassFault.TheVariants.{TakenTooLarge, CarrierBeyondRange}
use Rattle.schedule.specs.declared.fault.FirstPassFault.TheVariants.{PairBeyondRange, MarkBeforeBlock}
use Rattle.schedule.specs.declared.fault.ClosingFault.TheVariants.{ClosingNotZero, NoMark, CutShort}
use Rattle.schedule.specs.declared.fault.LookupFault.TheVariants.{NoSuchPlace}

abbrev pub number_place : Fault → ℕ × ℕ
number_place (Schedule WidthUnknown) = (1, 0)
number_place (Piece (OfferedTooLarge p)) = (10, p)
number_place (Piece (RecordingTooLong p)) = (11, p)
number_place (Piece (BufferTooShort p)) = (12, p)
number_place (SecondPass (TakenTooLarge p)) = (20, p)
number_place (SecondPass (CarrierBeyondRange p)) = (21, p)
number_place (FirstPass (PairBeyondRange p)) = (22, p)
number_place (FirstPass (MarkBeforeBlock p)) = (23, p)
number_place (Closing (ClosingNotZero p)) = (24, p)
number_place (Closing (NoMark p)) = (25, p)
number_place (Closing (CutShort p)) = (26, p)
number_place (Lookup (NoSuchPlace p)) = (30, p)
number_place (Piece WidthHasNoBytes) = (40, 0)
number_place (Piece (PackingTooShort p)) = (41, p)

-- A fault as it is printed: X, its number and its place.
abbrev pub printed : Fault → List ℕ
printed fault = codes "X " ++ (decimal (number_place fault).0 ++ (codes " " ++ decimal (number_place fault).1))

-- An answer with its fault as number and place.
abbrev pub says : {X : Type 0} → Result X Fault → Result X (ℕ × ℕ)
says (Ok x) = Ok x
says (Err f) = Err (number_place f)

-- The answer of a call that tries these rows in order, each a number, a place and whether its condition holds:
-- the first row that holds, or Ok x.
abbrev pub judged : {X : Type 0} → List (ℕ × ℕ × Bool) → X → Result X (ℕ × ℕ)
judged [] x = Ok x
judged (row ∷ rows) x = elim row.2 [ true ↦ Err (row.0, row.1) | false ↦ judged rows x ]
