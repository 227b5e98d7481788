use Rattle.std.proofs.Common.{◌≡◌, drop}
use Rattle.cram_image.specs.Image.{bits}
use Rattle.fabric.specs.Image.{arc_writes}
use Rattle.text_image.specs.Written.{after_all}
use Rattle.text_image.proofs.writes.write_arcs.Given as goal

-- what is written so far, and what is left
abbrev pub invariant-loop-arc : goal.invariant-loop-arc
invariant-loop-arc g l = after_all (arc_writes (g.G.NamedGraph.graph l.graph) l.t) (bits l.image) (drop l.arc-index l.arcs) ≡ after_all (arc_writes (g.G.NamedGraph.graph l.graph) l.t) (bits l.fn.image) l.arcs
