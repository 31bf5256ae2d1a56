-- All the laws over runs.
use Rattle.schedule.specs.Ranges.{Ranges, Lawful}
use Rattle.writer.proofs.Recorded.{writes_streams, distinct_beginnings}
use Rattle.writer.proofs.Running.{every_list_records, valid_is_accepted}
use Rattle.lane.specs.Laws.{StreamsAndRecordingsAgree}
use Rattle.lane.proofs.Back.{reads_back}
use Rattle.lane.proofs.Only.{reads_only_streams}
use Rattle.lane.proofs.Replying.{every_list_reads}

pub agree : (R : Ranges) → Lawful R → StreamsAndRecordingsAgree R
agree R law =
    record {
      writes_streams = writes_streams R law;
      distinct_beginnings = distinct_beginnings R law;
      reads_back = reads_back R law;
      reads_only_streams = reads_only_streams R law;
      every_list_records = every_list_records R law;
      every_list_reads = every_list_reads R law;
      valid_is_accepted = valid_is_accepted R law;
    }
