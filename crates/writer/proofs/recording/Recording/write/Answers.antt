use Rattle.std.proofs.Common.{arith, ◌∙◌}
use Rattle.std.proofs.lemmas.List.{take_more}
use Rattle.writer.proofs.Growing.{grows_on, behind_later}
use Rattle.writer.proofs.recording.Recording.write.Goals as goal

pub loop-x-preserved : goal.loop-x-preserved
loop-x-preserved g c =
    let R = g.S.Schedule.ranges c.args.self.now.schedule in
    let done = c.loop-x.invariant in
    let step = rw done.schedule at c.push.ensures in
    record {
      schedule = cc;
      count = omega arith;
      wrote = omega arith;
      behind = c.put-at.ensures.behind ∙ behind_later c.loop-x.buffer c.args.buffer.now c.loop-x.at c.put-at.result (omega arith) done.behind;
      grows = λ ss holds.
          let before = done.grows ss holds in
          let now = step.grows _ before.holds in
          rw (take_more c.args.blocks.now c.loop-x.x-index 0 (omega arith), c.put-at.ensures.front) (grows_on R ss _ _ _ _ _ _ before now);
    }
