use Rattle.std.proofs.Common.{◌≡◌, drop}
use Rattle.cram_image.specs.Image.{bits}
use Rattle.patterns.specs.Written.{opposite, written}
use Rattle.records.specs.Grid.{origin_of}
use Rattle.text_image.proofs.writes.write_opposite.Given as goal

-- what is written so far, and what is left
abbrev pub invariant-loop-p : goal.invariant-loop-p
invariant-loop-p l = written (bits l.image) (origin_of l.tile) (opposite (drop l.p-index l.pattern)) ≡ written (bits l.fn.image) (origin_of l.tile) (opposite l.pattern)
