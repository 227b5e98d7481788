-- The test of a list of bits, and its members.
use Rattle.std.proofs.Common.{◌≡◌, ◌↔◌, eqb, Bool, true, false, List, [], ◌∷◌, refl, sym, subst, inl, inr}
use Rattle.std.specs.List.{list_any}
use Rattle.std.proofs.lemmas.Bool.{or_cases, or_left, or_right, and_from, eq-eqb, false≢true}
use Rattle.words.specs.Members.{In}
use Rattle.patterns.specs.Bits.{DeviceBit, same_bit}
use Rattle.cram_image.specs.Image.{bits}
use Rattle.cram_image.proofs.Changes.{same_is}

-- a bit passes its own test
bit_is_itself : (b : DeviceBit) → same_bit b b ≡ true
bit_is_itself b = and_from (eqb b.frame b.frame) (eqb b.bit b.bit) (eq-eqb b.frame b.frame refl) (eq-eqb b.bit b.bit refl)

-- the test holds of the members, and of nothing else
member_from : (image : List DeviceBit) (b : DeviceBit) → bits image b ≡ true → In image b
member_from [] b h = absurd (false≢true h)
member_from (c ∷ cs) b h = elim (or_cases (same_bit b c) (list_any (same_bit b) cs) h) [
  | inl e ↦ inl (sym (same_is b c e))
  | inr e ↦ inr (member_from cs b e)
]

from_member : (image : List DeviceBit) (b : DeviceBit) → In image b → bits image b ≡ true
from_member [] b i = absurd i
from_member (c ∷ cs) b i = elim i [
  | inl e ↦ or_left (same_bit b c) (list_any (same_bit b) cs) (subst (λ d. same_bit b d ≡ true) (sym e) (bit_is_itself b))
  | inr j ↦ or_right (same_bit b c) (list_any (same_bit b) cs) (from_member cs b j)
]

pub members_told : (image : List DeviceBit) (b : DeviceBit) → (bits image b ≡ true) ↔ In image b
members_told image b = (member_from image b, from_member image b)

-- two tests that follow from each other
same_test : (v w : Bool) → (v ≡ true → w ≡ true) → (w ≡ true → v ≡ true) → v ≡ w
same_test true w there back = sym (there refl)
same_test false true there back = back refl
same_test false false there back = refl

-- and so of two lists with the same members
pub same_set : (image other : List DeviceBit) → ((b : DeviceBit) → In image b ↔ In other b) → (b : DeviceBit) → bits image b ≡ bits other b
same_set image other same b = same_test (bits image b) (bits other b)
    (λ e. from_member other b ((same b).0 (member_from image b e)))
    (λ e. from_member image b ((same b).1 (member_from other b e)))
