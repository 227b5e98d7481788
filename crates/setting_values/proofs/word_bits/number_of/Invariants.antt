use Rattle.std.proofs.Common.{◌≡◌, ◌≤◌, drop, length, map}
use Rattle.patterns.specs.Fits.{fits}
use Rattle.records.specs.Grid.{origin_of}
use Rattle.circuit.specs.Worlds.{address}
use Rattle.cram_image.specs.Image.{bits}
use Rattle.setting_values.proofs.word_bits.number_of.Given as goal

-- the number of the bits that were read
abbrev pub invariant-loop-left : goal.invariant-loop-left
invariant-loop-left l = record { within : l.left ≤ length l.patterns; number : l.number ≡ address (map (fits (bits l.image) (origin_of l.tile)) (drop l.left l.patterns)) }

abbrev pub decreases-loop-left : goal.decreases-loop-left
decreases-loop-left l = l.left
