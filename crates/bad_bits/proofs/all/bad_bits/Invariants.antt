use Rattle.std.proofs.Common.{◌≡◌, take}
use Rattle.cram_image.specs.Image.{bits as bits_of}
use Rattle.circuit.specs.WellFormed.{NamesApart}
use Rattle.domain_map.specs.Labels.{AreLabels}
use Rattle.upset.specs.Configured.{Configured, circuit_of}
use Rattle.bad_bits.specs.Listed.{AreFound}
use Rattle.bad_bits.proofs.all.bad_bits.Given as goal

-- the bad ones of the bits so far
abbrev pub invariant-loop-bit : goal.invariant-loop-bit
invariant-loop-bit g l = (k : Configured) → k.graph ≡ l.live.graph → k.image ≡ bits_of l.live.image → k.cells ≡ l.cells
    → AreLabels (circuit_of k) l.labels → NamesApart k.cells → AreFound k (take l.bit-index l.bit-items) l.bad.items
