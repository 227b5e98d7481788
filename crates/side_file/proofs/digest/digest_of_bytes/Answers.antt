use Rattle.std.proofs.Common.{◌∙◌}
use Rattle.side_file.proofs.Digests.{digest_more}
use Rattle.side_file.proofs.digest.digest_of_bytes.Goals as goal

pub loop-byte-preserved : goal.loop-byte-preserved
loop-byte-preserved c = digest_more c.args.bytes.now c.loop-byte.digest c.loop-byte.byte-index c.from.result c.loop-byte-test.true (cc) ∙ c.loop-byte.invariant
