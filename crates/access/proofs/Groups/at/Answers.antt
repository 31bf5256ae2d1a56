use Rattle.std.proofs.Common.{◌<◌, rules}
use Rattle.schedule.proofs.Each.{each_at}
use Rattle.writer.proofs.Fronts.{all_below}
use Rattle.access.proofs.Groups.at.Goals as goal

pub invariant_of-result-clause-below : goal.invariant_of-result-clause-below
invariant_of-result-clause-below g c k h =
    each_at (λ x. x < (g.S.Schedule.ranges c.args.schedule.now).base) _ k 0 h (search (rules, all_below))
