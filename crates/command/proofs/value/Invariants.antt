use Rattle.std.proofs.Common.{◌≡◌, ◌^◌, ◌<◌, drop}
use Rattle.command.specs.Lines.{value_after}
use Rattle.command.proofs.value.Given as goal

abbrev pub invariant-loop-digit : goal.invariant-loop-digit
invariant-loop-digit l =
    (value_after l.value (drop l.digit-index l.digits) ≡ value_after 0 l.digits) × (l.value < 10 ^ l.digit-index)
