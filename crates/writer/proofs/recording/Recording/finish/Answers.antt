use Rattle.std.proofs.Common.{◌/◌, ◌∙◌, arith}
use Rattle.writer.proofs.Growing.{behind_later}
use Rattle.writer.proofs.Closing.{closes}
use Rattle.writer.proofs.recording.Recording.finish.Goals as goal

pub returns-clause-behind : goal.returns-clause-behind
returns-clause-behind g c =
    c.put.ensures.behind ∙ behind_later c.put-at.new.buffer c.args.buffer.now c.put-at.result c.put.result (omega arith) c.put-at.ensures.behind

pub returns-clause-closes : goal.returns-clause-closes
returns-clause-closes g c =
    let R = g.S.Schedule.ranges c.args.self.now.schedule in
    let same = c.take_marks-group.ensures.schedule in
    let lead = rw same at c.lead.ensures in
    λ blocks holds.
    rw (c.put.ensures.front, c.put-at.ensures.front)
    (closes R blocks c.args.self.now.held _ _ holds (c.take_marks-group.ensures.grows blocks holds)
    (c.saturating_sub-j.result / 2) (omega arith) _ (rw same at c.second_pass-closing.ensures))
