-- The widths that are built.
use Rattle.std.specs.Prelude.{◌≡◌, ℕ, true, false, Ok, Err, Result}
use Rattle.schedule.specs.declared.fault.Fault.{Fault}
use Rattle.schedule.specs.Faults.{number_place}
use Rattle.schedule.specs.Kinds.{known}
use Rattle.schedule.specs.declared.width.Width.{Width}
use Rattle.schedule.specs.declared.width.Width.TheVariants.{Five, Eight, Sixteen, TwentyFour}

abbrev pub bits_of : Width → ℕ
bits_of Five = 5
bits_of Eight = 8
bits_of Sixteen = 16
bits_of TwentyFour = 24

-- A number is read as the width of that many bits, or refused.
abbrev pub Reads : ℕ → Result Width Fault → Type 0
Reads bits (Ok width) = (bits_of width ≡ bits) × (known bits ≡ true)
Reads bits (Err fault) = (number_place fault ≡ (1, 0)) × (known bits ≡ false)
