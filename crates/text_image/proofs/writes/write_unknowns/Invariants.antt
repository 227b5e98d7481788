use Rattle.std.proofs.Common.{◌≡◌, drop}
use Rattle.cram_image.specs.Image.{bits}
use Rattle.fabric.specs.Image.{unknown_writes}
use Rattle.records.specs.Grid.{origin_of}
use Rattle.text_image.specs.Written.{after_all}
use Rattle.text_image.proofs.writes.write_unknowns.Given as goal

-- what is written so far, and what is left
abbrev pub invariant-loop-line : goal.invariant-loop-line
invariant-loop-line l = after_all (unknown_writes (origin_of l.tile)) (bits l.image) (drop l.line-index l.unknowns) ≡ after_all (unknown_writes (origin_of l.tile)) (bits l.fn.image) l.unknowns
