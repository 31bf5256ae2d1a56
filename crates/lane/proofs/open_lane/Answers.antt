use Rattle.std.proofs.Common.{refl}
use Rattle.lane.proofs.Agreeing.{agree}
use Rattle.lane.proofs.open_lane.Goals as goal

pub returns : goal.returns
returns g c =
    record {
      recording = (c.open.ensures.schedule, c.open.ensures.empty.0, c.open.ensures.empty.1);
      reader = (c.new.ensures.schedule, c.new.ensures.started.0, c.new.ensures.started.1);
      agree = agree (g.S.Schedule.ranges c.args.schedule) (g.met.S.Schedule.lawful c.args.schedule);
      worked = record {
        streams = c.open.ensures.worked;
        pair_beyond_range = refl;
        ends = refl;
        carrier_beyond_range = refl;
        hands_over_two = refl;
        mark_before_block = refl;
        closing_not_zero = refl;
      };
    }
