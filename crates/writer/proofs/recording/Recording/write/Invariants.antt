use Rattle.std.proofs.Common.{◌≡◌, ℕ, ◌+◌, List, take, drop}
use Rattle.writer.specs.Holding.{Holds, Grows, due}
use Rattle.writer.proofs.recording.Recording.write.Given as goal

abbrev pub invariant-loop-x : goal.invariant-loop-x
invariant-loop-x g l =
    let R = g.S.Schedule.ranges l.initial.self.schedule in
    record {
      schedule : l.self.schedule ≡ l.initial.self.schedule;
      count : l.self.held.count ≡ l.initial.self.held.count + l.x-index;
      wrote : l.at + due R l.initial.self.held.count ≡ due R l.self.held.count;
      behind : drop l.at l.buffer ≡ drop l.at l.initial.buffer;
      grows : (ss : List ℕ) → Holds R ss l.initial.self.held → Grows R ss (take l.x-index l.blocks) l.self.held (take l.at l.buffer);
    }
