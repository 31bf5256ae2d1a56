use Rattle.std.proofs.Common.{arith}
use Rattle.std.proofs.lemmas.Bool.Decides.{nat_tests}
use Rattle.access.proofs.Law.{Answers, law_holds}
use Rattle.access.proofs.lookup.Goals as goal

pub returns-in_err-at : goal.returns-in_err-at
returns-in_err-at g c =
    let R = g.S.Schedule.ranges c.args.schedule.now in
    let answers : Answers R c.args.stream.now c.args.p c.from_residual.result = grind (arith, nat_tests) in
    record { answers = answers; law = law_holds R (g.met.S.Schedule.lawful c.args.schedule.now) _ _ _ answers }

pub returns-then-p-lead-2 : goal.returns-then-p-lead-2
returns-then-p-lead-2 g c =
    let R = g.S.Schedule.ranges c.args.schedule.now in
    let answers : Answers R c.args.stream.now c.args.p c.in_lead.result = grind (arith, nat_tests) in
    record { answers = answers; law = law_holds R (g.met.S.Schedule.lawful c.args.schedule.now) _ _ _ answers }

pub returns-in_err-at-2 : goal.returns-in_err-at-2
returns-in_err-at-2 g c =
    let R = g.S.Schedule.ranges c.args.schedule.now in
    let answers : Answers R c.args.stream.now c.args.p c.from_residual-in_err-at-2.result = grind (arith, nat_tests) in
    record { answers = answers; law = law_holds R (g.met.S.Schedule.lawful c.args.schedule.now) _ _ _ answers }

pub returns : goal.returns
returns g c =
    let R = g.S.Schedule.ranges c.args.schedule.now in
    let answers : Answers R c.args.stream.now c.args.p c.in_pair.result = grind (arith, nat_tests) in
    record { answers = answers; law = law_holds R (g.met.S.Schedule.lawful c.args.schedule.now) _ _ _ answers }
