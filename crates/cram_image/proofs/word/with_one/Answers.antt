use Rattle.std.proofs.Common.{◌*◌, ◌^◌, ◌%◌, true, subst, ap, arith, bit_or}
use Rattle.cram_image.specs.Words.{ChangesOne}
use Rattle.cram_image.proofs.Changes.{one_set}
use Rattle.cram_image.proofs.word.with_one.Goals as goal

pub returns : goal.returns
returns c =
    let is = ap (λ b. b.bit) c.b.view_is in
    subst (λ n. ChangesOne c.args.word (bit_or c.args.word (1 * 2 ^ (c.b.inside.bit % 64) % 2 ^ 64)) (n % 64) true) is
    (one_set c.args.word (c.b.inside.bit % 64) (omega arith))
