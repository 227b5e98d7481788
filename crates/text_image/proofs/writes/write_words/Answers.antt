use Rattle.std.proofs.lemmas.List.{drop_all}
use Rattle.cram_image.specs.Image.{bits}
use Rattle.fabric.specs.Image.{word_writes}
use Rattle.named_graph.specs.Standing.{settings_at}
use Rattle.records.specs.Grid.{origin_of}
use Rattle.text_image.proofs.Writing.{at_end}
use Rattle.text_image.proofs.writes.write_words.Goals as goal

pub returns : goal.returns
returns g c = at_end (word_writes (origin_of c.args.tile.now) (settings_at (g.G.NamedGraph.graph c.args.graph.now) c.args.t)) (bits c.args.image.now) (bits c.loop-word.image) c.args.words.now c.loop-word.word-index (drop_all c.loop-word.word-index c.args.words.now c.loop-word-test.false) c.loop-word.invariant
