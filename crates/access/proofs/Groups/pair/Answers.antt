use Rattle.std.proofs.Common.{◌≡◌, ℕ, arith}
use Rattle.std.proofs.lemmas.Bool.Decides.{nat_tests}
use Rattle.std.proofs.lemmas.List.{length-take-le, length-drop, get_or-take, get_or-drop}
use Rattle.access.specs.Lookup.{earlier, later}
use Rattle.access.proofs.Groups.pair.Goals as goal

pub returns-in_err-spill : goal.returns-in_err-spill
returns-in_err-spill g c =
    grind (arith, nat_tests, length-take-le {A = ℕ}, get_or-take {A = ℕ}, length-drop {A = ℕ}, get_or-drop {A = ℕ})

pub returns : goal.returns
returns g c =
    let R = g.S.Schedule.ranges c.args.self.now.schedule.now in
    let early : c.number.result ≡ earlier R c.args.self.now.part.now =
    grind (arith, nat_tests, length-take-le {A = ℕ}, get_or-take {A = ℕ}) in
    let late : c.number-2.result ≡ later R c.args.self.now.part.now =
    grind (arith, nat_tests, length-drop {A = ℕ}, get_or-drop {A = ℕ}) in
    grind (arith, nat_tests)
