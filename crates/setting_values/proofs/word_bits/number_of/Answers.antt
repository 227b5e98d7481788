use Rattle.std.proofs.Common.{◌<◌, subst, sym}
use Rattle.patterns.specs.Fits.{fits}
use Rattle.records.specs.Grid.{origin_of}
use Rattle.cram_image.specs.Image.{bits}
use Rattle.setting_values.proofs.WordBits.{number_small}
use Rattle.setting_values.proofs.word_bits.number_of.Goals as goal

pub with_lowest-number-requires : goal.with_lowest-number-requires
with_lowest-number-requires c =
    subst (λ n. n < 32768) (sym c.loop-left.invariant.number) (number_small (fits (bits c.args.image.now) (origin_of c.args.tile.now)) c.args.patterns.now c.loop-left.left c.requires c.loop-left-test.true)
