use Rattle.std.proofs.Common.{◌≡◌, drop, map}
use Rattle.std.specs.Prelude.{zip}
use Rattle.cram_image.specs.Image.{bits}
use Rattle.fabric.specs.Image.{after_writes}
use Rattle.records.specs.Grid.{origin_of}
use Rattle.text_image.specs.Written.{word_bit_write}
use Rattle.text_image.proofs.writes.write_word_bits.Given as goal

-- what is written so far, and what is left
abbrev pub invariant-loop-i : goal.invariant-loop-i
invariant-loop-i l = after_writes (bits l.image) (map (word_bit_write (origin_of l.tile)) (zip (drop l.i l.patterns) (drop l.i l.values))) ≡ after_writes (bits l.fn.image) (map (word_bit_write (origin_of l.tile)) (zip l.patterns l.values))
