use Rattle.std.proofs.Common.{rules, ◌*◌, ◌≤◌, length, length-drop, arith, ap, ◌∙◌, sym}
use Rattle.std.specs.Iterator.Adapters.{enumerate_count}
use Rattle.content.specs.Bytes.{blocks_of, Packed}
use Rattle.content.proofs.Chunks.{IsChunkAt-cut, blocks_of-reached, Packed-more, number_from-below}
use Rattle.content.proofs.write_blocks.Goals as goal

pub loop-i-preserved : goal.loop-i-preserved
loop-i-preserved c =
    let so_far = c.loop-i.invariant in
    let steps = c.in-Some.ensures.steps in
    let n = enumerate_count c.loop-i.i-iterator in
    let cut = IsChunkAt-cut c.args.size n c.args.bytes.now _ c.in-Some.chunk.now _ (omega arith) so_far.left steps.0.1.0 (rw so_far.size at steps.0.1.1) steps.0.1.2 in
    record {
      ready = search rules;
      size = steps.0.0 ∙ so_far.size;
      left = rw steps.2 cut.next;
      count = omega (arith, cut.counted);
      packed = rw (steps.2, steps.1) (Packed-more _ _ _ _ _ _ so_far.packed (omega (arith, cut.counted)) (c.block_of.ensures.is ∙ cut.block));
    }

pub returns : goal.returns
returns c =
    let size = c.args.size in
    let bytes = c.args.bytes.now in
    let so_far = c.loop-i.invariant in
    let n = enumerate_count c.loop-i.i-iterator in
    let left : length bytes ≤ n * size =
    omega (arith, c.in-None.ensures.steps.0.1.0, sym (length-drop (n * size) bytes) ∙ ap length (sym so_far.left)) in
    let packed : Packed size (blocks_of size (length bytes)) bytes c.args.buffer.now c.loop-i.buffer =
    rw (← blocks_of-reached _ _ _ (omega arith) left so_far.count) so_far.packed in
    record {
      packed = packed;
      below = λ k h. rw (packed.front k h) (number_from-below size (k * size) bytes (λ i. omega (arith, c.type_inv.bytes i)));
    }
