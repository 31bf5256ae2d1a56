use Rattle.std.proofs.Common.{arith}
use Rattle.writer.proofs.Closing.{marked}
use Rattle.writer.proofs.Inverse.{passes_taken_back}
use Rattle.writer.proofs.Shape.{stream_shape}
use Rattle.writer.proofs.Recorded.{writes_streams, distinct_beginnings}
use Rattle.writer.proofs.recording.Recording.open.Goals as goal

pub returns-clause-laws : goal.returns-clause-laws
returns-clause-laws g c =
    let R = g.S.Schedule.ranges c.args.schedule in
    let law = g.met.S.Schedule.lawful c.args.schedule in
    record {
      passes = passes_taken_back R;
      shape = stream_shape R law;
      writes = writes_streams R law;
      distinct = distinct_beginnings R law;
      few = λ count more.
          let m = marked R law.lead_high count in
          (omega arith, omega arith);
    }
