use Rattle.std.proofs.Common.{◌∙◌, arith}
use Rattle.tile_grid.proofs.Capped.{capped_more}
use Rattle.tile_grid.proofs.places.value.Goals as goal

pub loop-digit-preserved : goal.loop-digit-preserved
loop-digit-preserved c = record {
  small = omega arith;
  same = capped_more c.args.digits.now c.loop-digit.digit-index c.loop-digit.value c.min-value.result c.loop-digit-test.true (cc) ∙ c.loop-digit.invariant.same;
}
