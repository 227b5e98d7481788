-- Patterns over two sets that agree on the bits that they name.
use Rattle.std.proofs.Common.{◌≡◌, Bool, true, false, ◌⊎◌, inl, inr, List, [], ◌∷◌, refl, sym, ap, subst, ◌∙◌}
use Rattle.std.specs.Prelude.{if◌then◌else◌, ◌&&◌, ◌||◌, not}
use Rattle.std.proofs.lemmas.Bool.{false≢true, and_parts}
use Rattle.words.specs.Members.{In}
use Rattle.patterns.specs.Bits.{DeviceBit, PatternBit, Bits, same_bit, device_bit, flipped}
use Rattle.patterns.specs.Fits.{fits, present, has_plain_bit}
use Rattle.patterns.specs.Written.{with_bit, written}
use Rattle.fabric.specs.MuxBits.{bits_named}
use Rattle.links.proofs.Members.{is_in}
use Rattle.fabric_laws.proofs.SameBits.{same_is, same_refl}
use Rattle.fabric_laws.proofs.Members.{if_true, if_false, is_false}

-- device bits can be told apart
bits_apart : (a b : DeviceBit) → (a ≡ b) ⊎ ((a ≡ b) → ⊥)
bits_apart a b = go (same_bit a b) refl
  where
    go : (c : Bool) → same_bit a b ≡ c → (a ≡ b) ⊎ ((a ≡ b) → ⊥)
    go true e = inl (same_is a b e)
    go false e = inr (λ s. false≢true (sym e ∙ subst (λ x. same_bit a x ≡ true) s (same_refl a)))

pub is_named : (bs : List DeviceBit) (b : DeviceBit) → In bs b ⊎ (In bs b → ⊥)
is_named bs b = is_in bits_apart bs b

-- a bit that a pattern doesn't name stays where it is written
pub write_off : (image : Bits) (o : DeviceBit) (p : List PatternBit) (b : DeviceBit) → (In (bits_named o p) b → ⊥) → written image o p b ≡ image b
write_off image o [] b n = refl
write_off image o (w ∷ ws) b n =
    write_off (with_bit image (device_bit o w) w.set) o ws b (λ h. n (inr h))
    ∙ if_false (same_bit (device_bit o w) b) w.set (image b) (is_false (same_bit (device_bit o w) b) (λ h. n (inl (same_is (device_bit o w) b h))))

pub write_agree : (i j : Bits) (o : DeviceBit) (p : List PatternBit) (b : DeviceBit) → i b ≡ j b → written i o p b ≡ written j o p b
write_agree i j o [] b e = e
write_agree i j o (w ∷ ws) b e =
    write_agree (with_bit i (device_bit o w) w.set) (with_bit j (device_bit o w) w.set) o ws b (ap (λ z. if same_bit (device_bit o w) b then w.set else z) e)

-- a bit that it names is as it was written, whatever it was
pub write_named : (i j : Bits) (o : DeviceBit) (p : List PatternBit) (b : DeviceBit) → In (bits_named o p) b → written i o p b ≡ written j o p b
write_named i j o [] b n = absurd n
write_named i j o (w ∷ ws) b n = elim n [
  | inl s ↦ (let same : same_bit (device_bit o w) b ≡ true = subst (λ x. same_bit (device_bit o w) x ≡ true) s (same_refl (device_bit o w)) in
      write_agree (with_bit i (device_bit o w) w.set) (with_bit j (device_bit o w) w.set) o ws b
      (if_true (same_bit (device_bit o w) b) w.set (i b) same ∙ sym (if_true (same_bit (device_bit o w) b) w.set (j b) same)))
  | inr k ↦ write_named (with_bit i (device_bit o w) w.set) (with_bit j (device_bit o w) w.set) o ws b k
]

pub fits_agree : (i j : Bits) (o : DeviceBit) (p : List PatternBit) → ((b : DeviceBit) → In (bits_named o p) b → i b ≡ j b) → fits i o p ≡ fits j o p
fits_agree i j o [] h = refl
fits_agree i j o (w ∷ ws) h =
    ap (λ z. (if w.set then z else not z) && fits i o ws) (h (device_bit o w) (inl refl))
    ∙ ap (λ z. (if w.set then j (device_bit o w) else not (j (device_bit o w))) && z) (fits_agree i j o ws (λ b n. h b (inr n)))

pub present_agree : (i j : Bits) (o : DeviceBit) (p : List PatternBit) → ((b : DeviceBit) → In (bits_named o p) b → i b ≡ j b) → present i o p ≡ present j o p
present_agree i j o [] h = refl
present_agree i j o (w ∷ ws) h =
    ap (λ z. (if w.set then z else true) && present i o ws) (h (device_bit o w) (inl refl))
    ∙ ap (λ z. (if w.set then j (device_bit o w) else true) && z) (present_agree i j o ws (λ b n. h b (inr n)))

pub flip_agree : (flips i j : Bits) (b : DeviceBit) → i b ≡ j b → flipped flips i b ≡ flipped flips j b
flip_agree flips i j b e = ap (λ z. if flips b then not z else z) e

-- a bit that a pattern names is set
pub record SetBit (i : Bits) (o : DeviceBit) (p : List PatternBit) : Type 0 where
  pub bit : DeviceBit
  pub named : In (bits_named o p) bit
  pub is_set : i bit ≡ true

plain_head : (s x : Bool) → s ≡ true → (if s then x else not x) ≡ true → x ≡ true
plain_head true x e h = h
plain_head false x e h = absurd (false≢true e)

-- a pattern with a plain bit that fits names a set bit
pub set_bit : (i : Bits) (o : DeviceBit) (p : List PatternBit) → has_plain_bit p ≡ true → fits i o p ≡ true → SetBit i o p
set_bit i o [] e f = absurd (false≢true e)
set_bit i o (w ∷ ws) e f = go w.set refl (set_bit i o ws)
  where
    parts : ((if w.set then i (device_bit o w) else not (i (device_bit o w))) ≡ true) × (fits i o ws ≡ true)
    parts = and_parts (if w.set then i (device_bit o w) else not (i (device_bit o w))) (fits i o ws) f

    go : (s : Bool) → w.set ≡ s → (has_plain_bit ws ≡ true → fits i o ws ≡ true → SetBit i o ws) → SetBit i o (w ∷ ws)
    go true s ih = record { bit = device_bit o w; named = inl refl; is_set = plain_head w.set (i (device_bit o w)) s parts.0 }
    go false s ih = let r = ih (subst (λ z. z || has_plain_bit ws ≡ true) s e) parts.1 in record { bit = r.bit; named = inr r.named; is_set = r.is_set }
