use Rattle.std.proofs.Common.{length, refl, take}
use Rattle.patterns.specs.Fits.{fits}
use Rattle.records.specs.Database.{EnumOption}
use Rattle.records.specs.Grid.{origin_of}
use Rattle.cram_image.specs.Image.{bits}
use Rattle.chosen_arcs.proofs.Longest.{most_step}
use Rattle.setting_values.proofs.enums.longest_fit.Goals as goal

pub loop-option-preserved : goal.loop-option-preserved
loop-option-preserved c =
    most_step (λ (o : EnumOption). fits (bits c.args.image.now) (origin_of c.args.tile.now) o.bits) (λ (o : EnumOption). length o.bits)
    (take c.loop-option.option-index c.args.options.now) c.args.options.now c.loop-option.option-index c.loop-option.longest c.longer-longest.result c.option-item.result c.fits_at.result
    c.loop-option-test.true c.option-item.is refl c.loop-option.invariant c.fits_at.ensures c.longer-longest.ensures
