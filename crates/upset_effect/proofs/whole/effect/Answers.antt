use Rattle.std.proofs.Common.{map}
use Rattle.patterns.specs.Bits.{bits_of_list}
use Rattle.cram_image.specs.Image.{bits}
use Rattle.upset_effect.proofs.Effecting.{effect_is}
use Rattle.upset_effect.proofs.whole.effect.Goals as goal

pub returns : goal.returns
returns g c =
    effect_is c.args.live.now.graph (bits c.args.live.now.image) (bits_of_list c.args.flips.now) c.args.cells.now
    (record { hit = c.in_ok-hit.hit.items; disturbed = c.in_ok-disturbed.disturbed.items; touched = map (λ n. n.now) c.in_ok-touched.touched.items })
    c.in_ok-hit.ensures c.in_ok-disturbed.ensures c.in_ok-touched.ensures
