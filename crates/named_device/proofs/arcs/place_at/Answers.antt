use Rattle.named_device.proofs.Places.{place_is}
use Rattle.named_device.proofs.arcs.place_at.Goals as goal

pub returns : goal.returns
returns c = place_is c.args.source.now c.args.names.now.muxes c.args.mux c.arc_place.result c.arc_place.ensures
