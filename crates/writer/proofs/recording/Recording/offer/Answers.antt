use Rattle.std.proofs.Common.{◌++◌, length, arith}
use Rattle.schedule.proofs.Judged.{judged_as}
use Rattle.writer.specs.Calls.{offer_rows}
use Rattle.writer.proofs.Rows.{fine}
use Rattle.writer.proofs.Opening.{open_from, valid_append}
use Rattle.writer.proofs.recording.Recording.offer.Goals as goal

pub write-requires-clause-below : goal.write-requires-clause-below
write-requires-clause-below g c =
    (fine (g.S.Schedule.ranges c.args.self.now.schedule) c.args.self.now.held.count c.args.piece.now _ c.in_ok-check_offer.ensures).below

pub returns-clause-offers : goal.returns-clause-offers
returns-clause-offers g c =
    let R = g.S.Schedule.ranges c.args.self.now.schedule in
    let law = g.met.S.Schedule.lawful c.args.self.now.schedule in
    let h = c.args.self.now.held in
    let piece = c.args.piece.now in
    let ok = fine R h.count piece _ c.in_ok-check_offer.ensures in
    let wrote = c.write.ensures in
    record {
      answers = judged_as (offer_rows R h.count piece (length c.args.buffer.now)) tt tt _ _ c.in_ok-check_offer.ensures wrote.wrote;
      leaves = (
        record { fits = omega arith; same_length = omega arith; behind = wrote.behind },
        λ blocks o.
            let grows = wrote.grows blocks o.holds in (
              open_from R law (blocks ++ piece) _ (valid_append R law blocks piece o.valid ok.below (omega arith)) grows.holds,
              grows.writes,
            ),
      );
    }
