use Rattle.std.proofs.lemmas.List.{drop_all}
use Rattle.cram_image.specs.Image.{bits}
use Rattle.fabric.specs.Image.{unknown_writes}
use Rattle.records.specs.Grid.{origin_of}
use Rattle.text_image.proofs.Writing.{at_end}
use Rattle.text_image.proofs.writes.write_unknowns.Goals as goal

pub returns : goal.returns
returns c = at_end (unknown_writes (origin_of c.args.tile.now)) (bits c.args.image.now) (bits c.loop-line.image) c.args.unknowns.now c.loop-line.line-index (drop_all c.loop-line.line-index c.args.unknowns.now c.loop-line-test.false) c.loop-line.invariant
