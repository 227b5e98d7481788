use Rattle.cram_image.specs.Image.{bits}
use Rattle.records.specs.Grid.{origin_of}
use Rattle.text_image.proofs.Writing.{words_end}
use Rattle.text_image.proofs.writes.write_word_bits.Goals as goal

pub returns : goal.returns
returns c = words_end (origin_of c.args.tile.now) (bits c.args.image.now) (bits c.loop-i.image) c.args.patterns.now c.args.values.now c.loop-i.i c.min-i-end.result c.min-i-end.ensures c.loop-i-test.false c.loop-i.invariant
