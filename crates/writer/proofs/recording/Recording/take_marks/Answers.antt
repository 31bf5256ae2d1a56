use Rattle.std.proofs.Common.{◌≡◌, [], arith}
use Rattle.std.proofs.lemmas.List.{nil_from_length}
use Rattle.writer.specs.Holding.{completed}
use Rattle.writer.proofs.Growing.{grows_on}
use Rattle.writer.proofs.Closing.{marked, the_marks}
use Rattle.writer.proofs.recording.Recording.take_marks.Goals as goal
use Rattle.writer.proofs.recording.Recording.take_marks.Goals.{then-two, else-two}

pub returns-clause-grows : goal.returns-clause-grows
returns-clause-grows g c =
    let R = g.S.Schedule.ranges c.args.self.now.schedule in
    let m = marked R (g.met.S.Schedule.lawful c.args.self.now.schedule).lead_high c.args.self.now.held.count in
    λ ss holds.
    elim c.if-two.branch [
      | then-two w ↦
          let first = w.push.ensures.grows ss holds in
          let second = rw (w.self-is, w.push.ensures.schedule) at c.after.ensures in
          let waits : completed w.push.result ≡ [] = nil_from_length (completed w.push.result) (omega arith) in
          rw (← the_marks R _ 2 c.end_mark-mark.result m c.end_mark-mark.ensures (omega arith))
          (rw waits at (grows_on R ss _ _ _ _ _ _ first (second.grows _ first.holds)))
      | else-two w ↦
          rw (← the_marks R _ 1 c.end_mark-mark.result m c.end_mark-mark.ensures (omega arith))
          ((rw w.self-is at c.after.ensures).grows ss holds)
    ]
