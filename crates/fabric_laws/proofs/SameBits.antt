-- Device bits can be told apart.
use Rattle.std.proofs.Common.{◌≡◌, true, refl, eq-eqb}
use Rattle.std.specs.Prelude.{◌==◌}
use Rattle.std.proofs.lemmas.Bool.{and_parts, and_from, eqb-true}
use Rattle.patterns.specs.Bits.{DeviceBit, same_bit}

pub same_is : (a b : DeviceBit) → same_bit a b ≡ true → a ≡ b
same_is a b h =
    let parts = and_parts (a.frame == b.frame) (a.bit == b.bit) h in
    let frames = eqb-true a.frame b.frame parts.0 in
    let bits = eqb-true a.bit b.bit parts.1 in
    λ i. record { frame = frames i; bit = bits i }

pub same_refl : (b : DeviceBit) → same_bit b b ≡ true
same_refl b = and_from (b.frame == b.frame) (b.bit == b.bit) (eq-eqb b.frame b.frame refl) (eq-eqb b.bit b.bit refl)
