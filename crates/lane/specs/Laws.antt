-- The laws of recordings and readers of one schedule, over all runs.
use Rattle.std.specs.Prelude.{◌≡◌, ℕ, List, [], ◌∷◌, ◌++◌, map}
use Rattle.std.specs.List.{AllByRecursion}
use Rattle.schedule.specs.Ranges.{Ranges}
use Rattle.writer.specs.Stream.{Valid, stream}
use Rattle.writer.specs.Runs.{ExactlyOne, Call, Recorded, accepted, wrote}
use Rattle.writer.specs.Laws.{WritesStreams, DistinctBeginnings}
use Rattle.writer.specs.Lists.{EveryListRecords, ValidIsAccepted}
use Rattle.reader.specs.Reading.{started}
use Rattle.lane.specs.Reads.{Reply, request, Reads, StoppedAtLast, Accepted, taken, handed, Replies}
use Rattle.lane.specs.Reads.Request.{take_it, stop_it}

-- Lists, one behind another.
abbrev pub joined : List (List ℕ) → List ℕ
joined [] = []
joined (xs ∷ xss) = xs ++ joined xss

-- A new reader that takes the joined streams of any number of recordings, and then stops: every take and the stop are
-- accepted, and the recordings handed over are what those recordings accepted, in order.
abbrev pub ReadsBack : Ranges → Type 0
ReadsBack R =
    (runs : List (List Call)) (replies : List Reply) → AllByRecursion (Recorded R) runs → Reads R started replies →
    map request replies ≡ map take_it (joined (map wrote runs)) ++ stop_it ∷ [] →
    AllByRecursion Accepted replies × (handed [] replies ≡ map accepted runs)

-- What a new reader accepted, up to its accepted stop, is the joined streams of the recordings that it handed over, all
-- of them valid; and every other list of valid recordings has other joined streams.
pub record OnlyStreams (R : Ranges) (replies : List Reply) : Type 0 where
  pub streams : taken replies ≡ joined (map (stream R) (handed [] replies))
  pub valid : AllByRecursion (Valid R) (handed [] replies)
  pub no_other : (others : List (List ℕ)) → AllByRecursion (Valid R) others → joined (map (stream R) others) ≡ taken replies → others ≡ handed [] replies

abbrev pub ReadsOnlyStreams : Ranges → Type 0
ReadsOnlyStreams R = (replies : List Reply) → Reads R started replies → StoppedAtLast replies → OnlyStreams R replies

-- Every list of takes and stops has exactly one run.
abbrev pub EveryListReads : Ranges → Type 0
EveryListReads R = ExactlyOne (Replies R)

pub record StreamsAndRecordingsAgree (R : Ranges) : Type 0 where
  pub writes_streams : WritesStreams R
  pub distinct_beginnings : DistinctBeginnings R
  pub reads_back : ReadsBack R
  pub reads_only_streams : ReadsOnlyStreams R
  pub every_list_records : EveryListRecords R
  pub every_list_reads : EveryListReads R
  pub valid_is_accepted : ValidIsAccepted R
