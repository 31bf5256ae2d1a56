use Rattle.std.proofs.Common.{arith}
use Rattle.std.proofs.lemmas.Bool.Decides.{nat_tests}
use Rattle.command.proofs.Numerals.{all_digits, reads_number, reads_none}
use Rattle.command.proofs.number.Goals as goal

pub returns-then-is_empty-clause-reads : goal.returns-then-is_empty-clause-reads
returns-then-is_empty-clause-reads c =
    let found = c.leading_digits.ensures in
    let parts = c.split_at.ensures in
    let test = c.is_empty.ensures in
    reads_none c.args.text.now _ found.within found.digits found.stops (grind (arith, nat_tests))

pub value-requires-clause-digits : goal.value-requires-clause-digits
value-requires-clause-digits c =
    let found = c.leading_digits.ensures in
    rw c.split_at.ensures.front (all_digits c.args.text.now _ found.within found.digits found.stops)

pub returns-clause-reads : goal.returns-clause-reads
returns-clause-reads c =
    let found = c.leading_digits.ensures in
    let parts = c.split_at.ensures in
    let test = c.is_empty.ensures in
    rw (c.value.ensures, c.split_at.ensures.front, c.split_at.ensures.back)
    (reads_number c.args.text.now _ found.within found.digits found.stops (grind (arith, nat_tests)))
