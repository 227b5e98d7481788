-- What an error of a live routing names is there. (Our own.)
use Rattle.std.specs.Prelude.{◌<◌, length}
use Rattle.fabric.specs.Graph.{Graph}
use Rattle.live_routing.specs.declared.error.LiveError.{LiveError}
use Rattle.live_routing.specs.declared.error.LiveError.TheVariants.{ArcDiffers, Contested, Memory}

-- the mux, or the wires, are those of the graph
abbrev pub StandsIn : Graph → LiveError → Type 0
StandsIn g (ArcDiffers m) = m < length g.muxes
StandsIn g (Contested c) = (c.wire < length g.wires) × ((c.first < length g.wires) × (c.second < length g.wires))
StandsIn g Memory = Unit {0}
