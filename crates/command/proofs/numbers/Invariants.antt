use Rattle.std.proofs.Common.{length, vec_items}
use Rattle.command.proofs.Rests.{Left}
use Rattle.command.proofs.numbers.Given as goal

abbrev pub invariant-loop-rest : goal.invariant-loop-rest
invariant-loop-rest l = Left l.fields (vec_items l.all) l.rest

abbrev pub decreases-loop-rest : goal.decreases-loop-rest
decreases-loop-rest l = length l.rest
