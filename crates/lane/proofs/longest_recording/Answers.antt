use Rattle.lane.proofs.Agreeing.{agree}
use Rattle.lane.proofs.longest_recording.Goals as goal

pub returns : goal.returns
returns g c =
    record {
      longest = c.longest.ensures;
      agree = agree (g.S.Schedule.ranges c.args.schedule.now) (g.met.S.Schedule.lawful c.args.schedule.now);
    }
