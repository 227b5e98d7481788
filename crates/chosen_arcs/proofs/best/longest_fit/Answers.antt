use Rattle.std.proofs.Common.{length, refl, take}
use Rattle.patterns.specs.Fits.{fits}
use Rattle.records.specs.Database.{Arc}
use Rattle.records.specs.Grid.{origin_of}
use Rattle.cram_image.specs.Image.{bits}
use Rattle.chosen_arcs.proofs.Longest.{most_step}
use Rattle.chosen_arcs.proofs.best.longest_fit.Goals as goal

pub loop-arc-preserved : goal.loop-arc-preserved
loop-arc-preserved c =
    most_step (λ (a : Arc). fits (bits c.args.image.now) (origin_of c.args.tile.now) a.bits) (λ (a : Arc). length a.bits)
    (take c.loop-arc.arc-index c.args.arcs.now) c.args.arcs.now c.loop-arc.arc-index c.loop-arc.longest c.longer-longest.result c.arc-item.result c.fits_at.result
    c.loop-arc-test.true c.arc-item.is refl c.loop-arc.invariant c.fits_at.ensures c.longer-longest.ensures
