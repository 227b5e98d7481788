use Rattle.std.proofs.Common.{subst, sym}
use Rattle.patterns.specs.Bits.{bits_of_list}
use Rattle.cram_image.specs.Image.{bits}
use Rattle.upset_effect.specs.Reach.{AreThose, IsAfter, IsBefore}
use Rattle.upset_effect.proofs.Changing.{differ}
use Rattle.upset_effect.proofs.hits.is_changed.Goals as goal

pub returns : goal.returns
returns g c =
    let graph = c.args.live.now.graph in
    let image = bits c.args.live.now.image in
    let flips = bits_of_list c.args.flips.now in
    differ (IsAfter graph image flips c.args.w) (IsBefore graph image c.args.w) c.deref.result.now c.drivers.result.now
    (subst (AreThose (IsAfter graph image flips c.args.w)) (sym c.deref.ensures.value) c.in_ok-after.ensures)
    (record { rising = c.drivers.ensures.order; members = c.drivers.ensures.all }) c.are_same.result c.are_same.ensures
