use Rattle.std.proofs.Common.{rules, ◌≡◌, ℕ, ◌<◌, get_or, fold, reverse, arith, ◌∙◌}
use Rattle.content.proofs.Chunks.{shift_in, filler, fold-block, number_from-below}
use Rattle.content.proofs.block_of.Goals as goal

pub returns : goal.returns
returns c =
    let size = c.args.size in
    let chunk = c.args.chunk.now in
    let bytes : (k : ℕ) → get_or chunk k 0 < 256 = λ k. omega (arith, c.type_inv.chunk k) in
    let folded : c.fold.result ≡ fold shift_in (filler size chunk) (reverse chunk) = search rules in
    let is = folded ∙ fold-block size chunk (omega arith) (omega arith) bytes in
    record { is = is; below = rw is (number_from-below size 0 chunk bytes) }
