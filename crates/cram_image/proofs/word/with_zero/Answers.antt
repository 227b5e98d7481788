use Rattle.std.proofs.Common.{◌*◌, ◌^◌, ◌%◌, false, subst, ap, arith, w64, bit_and}
use Rattle.std.specs.Int.{bit_not}
use Rattle.cram_image.specs.Words.{ChangesOne}
use Rattle.cram_image.proofs.Changes.{one_cleared}
use Rattle.cram_image.proofs.word.with_zero.Goals as goal

pub returns : goal.returns
returns c =
    let is = ap (λ b. b.bit) c.b.view_is in
    subst (λ n. ChangesOne c.args.word (bit_and c.args.word (bit_not w64 (1 * 2 ^ (c.b.inside.bit % 64) % 2 ^ 64))) (n % 64) false) is
    (one_cleared c.args.word (c.b.inside.bit % 64) (omega arith))
