use Rattle.std.proofs.lemmas.List.{drop_all}
use Rattle.cram_image.specs.Image.{bits}
use Rattle.fabric.specs.Image.{arc_writes}
use Rattle.text_image.proofs.Writing.{at_end}
use Rattle.text_image.proofs.writes.write_arcs.Goals as goal

pub returns : goal.returns
returns g c = at_end (arc_writes (g.G.NamedGraph.graph c.args.graph.now) c.args.t) (bits c.args.image.now) (bits c.loop-arc.image) c.args.arcs.now c.loop-arc.arc-index (drop_all c.loop-arc.arc-index c.args.arcs.now c.loop-arc-test.false) c.loop-arc.invariant
