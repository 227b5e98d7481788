use Rattle.std.proofs.lemmas.List.{drop_all}
use Rattle.cram_image.specs.Image.{bits}
use Rattle.fabric.specs.Image.{tile_writes}
use Rattle.text_image.proofs.Writing.{at_end}
use Rattle.text_image.proofs.writes.write_sections.Goals as goal

pub returns : goal.returns
returns g c = at_end (tile_writes (g.G.NamedGraph.graph c.args.graph.now)) (bits c.args.image.now) (bits c.loop-text.image) c.args.sections.now c.loop-text.text-index (drop_all c.loop-text.text-index c.args.sections.now c.loop-text-test.false) c.loop-text.invariant
