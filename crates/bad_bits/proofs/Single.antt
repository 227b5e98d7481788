-- A list of one bit is the set of that bit.
use Rattle.std.proofs.Common.{◌≡◌, Bool, true, false, [], ◌∷◌, refl, subst, inl, inr}
use Rattle.std.proofs.lemmas.Bool.{false≢true}
use Rattle.patterns.specs.Bits.{DeviceBit, bits_of_list, same_bit}
use Rattle.fabric_laws.proofs.SameBits.{same_is, same_refl}
use Rattle.graph_lists.proofs.BitsOf.{listed_from, listed_to}
use Rattle.upset.specs.Safe.{only}

same_tests : (a b : Bool) → (a ≡ true → b ≡ true) → (b ≡ true → a ≡ true) → a ≡ b
same_tests true true f g = refl
same_tests true false f g = absurd (false≢true (f refl))
same_tests false true f g = absurd (false≢true (g refl))
same_tests false false f g = refl

from_one : (b x : DeviceBit) → bits_of_list (b ∷ []) x ≡ true → same_bit b x ≡ true
from_one b x h = elim (listed_from (b ∷ []) x h) [
  | inl e ↦ subst (λ z. same_bit b z ≡ true) e (same_refl b)
  | inr i ↦ absurd i
]

to_one : (b x : DeviceBit) → same_bit b x ≡ true → bits_of_list (b ∷ []) x ≡ true
to_one b x h = listed_to (b ∷ []) x (inl (same_is b x h))

pub one_bit : (b : DeviceBit) → bits_of_list (b ∷ []) ≡ only b
one_bit b = λ i x. same_tests (bits_of_list (b ∷ []) x) (same_bit b x) (from_one b x) (to_one b x) i
