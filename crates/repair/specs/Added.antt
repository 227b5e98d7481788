-- Arcs that are added to an image.
use Rattle.std.specs.Prelude.{List, [], ◌∷◌}
use Rattle.patterns.specs.Bits.{Bits}
use Rattle.patterns.specs.Written.{written}
use Rattle.fabric.specs.Graph.{GraphArc}
use Rattle.upset.specs.Configured.{Configured}

-- the image with the pattern of an arc written
abbrev pub with_arc : Bits → GraphArc → Bits
with_arc image a = written image a.origin a.arc.bits

-- the image with the patterns of arcs written, one after the other
abbrev pub with_arcs : Bits → List GraphArc → Bits
with_arcs image [] = image
with_arcs image (a ∷ rest) = with_arcs (with_arc image a) rest

-- the configured circuit with another image; its cells stay
abbrev pub with_image : Configured → Bits → Configured
with_image k image = record { graph = k.graph; image = image; cells = k.cells; side = k.side }

abbrev pub added : Configured → GraphArc → Configured
added k a = with_image k (with_arc k.image a)

abbrev pub added_all : Configured → List GraphArc → Configured
added_all k arcs = with_image k (with_arcs k.image arcs)
