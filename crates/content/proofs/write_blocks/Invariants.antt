use Rattle.std.proofs.Common.{◌≡◌, ◌*◌, ◌≤◌, length, drop}
use Rattle.std.specs.Slice.Iter.{chunks_rest, chunks_size}
use Rattle.std.specs.Iterator.Adapters.{enumerate_source, enumerate_count}
use Rattle.content.specs.Bytes.{blocks_of, Packed}
use Rattle.content.proofs.write_blocks.Given as goal

abbrev pub invariant-loop-i : goal.invariant-loop-i
invariant-loop-i l =
    let chunks = enumerate_source l.i-iterator in
    let n = enumerate_count l.i-iterator in record {
      ready : goal.iterator-loop-i.can_next l.i-iterator;
      size : chunks_size chunks ≡ l.size;
      left : chunks_rest chunks ≡ drop (n * l.size) l.bytes;
      count : n ≤ blocks_of l.size (length l.bytes);
      packed : Packed l.size n l.bytes l.initial.buffer l.buffer;
    }
