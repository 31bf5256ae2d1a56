use Rattle.std.proofs.Common.{arith}
use Rattle.writer.proofs.Growing.{held_waits, held_joins}
use Rattle.writer.proofs.recording.Recording.after.Goals as goal

pub returns-then-place-eq0-clause-grows : goal.returns-then-place-eq0-clause-grows
returns-then-place-eq0-clause-grows g c =
    λ ss holds. held_waits _ ss c.args.self.now.held holds c.args.symbol (omega arith) (omega arith)

pub returns-clause-grows : goal.returns-clause-grows
returns-clause-grows g c =
    let law = g.met.S.Schedule.lawful c.args.self.now.schedule in
    λ ss holds.
    held_joins _ ss c.args.self.now.held holds c.args.symbol (omega arith) (omega arith) _ (omega arith) _
    (c.first_pass-carrier.ensures.exact (omega arith)) _ c.second_pass-group.ensures
