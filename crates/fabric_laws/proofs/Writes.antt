-- A bit is as the last write that names it leaves it.
use Rattle.std.proofs.Common.{◌≡◌, Bool, false, inl, inr, List, [], ◌∷◌, ◌++◌, map, refl, sym, ap, ◌∙◌}
use Rattle.patterns.specs.Bits.{DeviceBit, PatternBit, Bits, same_bit, device_bit}
use Rattle.patterns.specs.Written.{with_bit, written}
use Rattle.records.specs.Config.{Config}
use Rattle.fabric.specs.Graph.{Graph}
use Rattle.fabric.specs.Image.{Write, after_writes, no_bits, writes_of, image_of}
use Rattle.fabric_laws.specs.Written.{BitWrite, bit_writes, IsUnwritten, LastWritten}
use Rattle.fabric_laws.proofs.Members.{if_true, if_false, is_false}
use Rattle.fabric_laws.proofs.SameBits.{same_is, same_refl}

after_bits : Bits → List BitWrite → Bits
after_bits image [] = image
after_bits image (e ∷ es) = after_bits (with_bit image e.bit e.value) es

as_bit : DeviceBit → PatternBit → BitWrite
as_bit origin p = record { bit = device_bit origin p; value = p.set }

after_append : (image : Bits) (xs ys : List BitWrite) → after_bits image (xs ++ ys) ≡ after_bits (after_bits image xs) ys
unfolding after_bits
after_append image [] ys = refl
after_append image (x ∷ xs) ys = after_append (with_bit image x.bit x.value) xs ys

pattern_bits : (image : Bits) (origin : DeviceBit) (ps : List PatternBit) → written image origin ps ≡ after_bits image (map (as_bit origin) ps)
unfolding after_bits as_bit
pattern_bits image origin [] = refl
pattern_bits image origin (p ∷ ps) = pattern_bits (with_bit image (device_bit origin p) p.set) origin ps

-- writes are done bit by bit
by_bits : (image : Bits) (ws : List Write) → after_writes image ws ≡ after_bits image (bit_writes ws)
unfolding after_bits as_bit
by_bits image [] = refl
by_bits image (w ∷ ws) =
    ap (λ i. after_writes i ws) (pattern_bits image w.origin w.pattern)
    ∙ by_bits (after_bits image (map (as_bit w.origin) w.pattern)) ws
    ∙ sym (after_append image (map (as_bit w.origin) w.pattern) (bit_writes ws))

-- a bit that none names stays
stays : (image : Bits) (es : List BitWrite) (b : DeviceBit) → IsUnwritten es b → after_bits image es b ≡ image b
unfolding after_bits
stays image [] b n = refl
stays image (e ∷ es) b n =
    stays (with_bit image e.bit e.value) es b (λ x i. n x (inr i))
    ∙ if_false (same_bit e.bit b) e.value (image b) (is_false (same_bit e.bit b) (λ h. n e (inl refl) (same_is e.bit b h)))

last_decides : (image : Bits) (es : List BitWrite) (b : DeviceBit) (value : Bool) → LastWritten es b value → after_bits image es b ≡ value
unfolding after_bits
last_decides image es b value l =
    let write : BitWrite = record { bit = b; value = value } in
    ap (λ xs. after_bits image xs b) l.whole
    ∙ ap (λ i. i b) (after_append image l.earlier (write ∷ l.later))
    ∙ stays (with_bit (after_bits image l.earlier) b value) l.later b l.last
    ∙ if_true (same_bit b b) value (after_bits image l.earlier b) (same_refl b)

pub last_written : (g : Graph) (config : Config) (b : DeviceBit) (value : Bool) → LastWritten (bit_writes (writes_of g config)) b value → image_of g config b ≡ value
last_written g config b value l = ap (λ i. i b) (by_bits no_bits (writes_of g config)) ∙ last_decides no_bits (bit_writes (writes_of g config)) b value l

pub unwritten : (g : Graph) (config : Config) (b : DeviceBit) → IsUnwritten (bit_writes (writes_of g config)) b → image_of g config b ≡ false
unwritten g config b n = ap (λ i. i b) (by_bits no_bits (writes_of g config)) ∙ stays no_bits (bit_writes (writes_of g config)) b n
