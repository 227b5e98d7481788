-- Bad bits one after the other.
use Rattle.std.proofs.Common.{◌≡◌, ℕ, ◌+◌, ◌<◌, ◌≤◌, List, [], ◌∷◌, ◌++◌, length, take, drop, get_or, refl, sym, ap, subst, ◌∙◌, inl, inr}
use Rattle.std.specs.declared.cmp.Ordering.{Ordering}
use Rattle.std.specs.declared.cmp.Ordering.TheVariants.{Less}
use Rattle.std.proofs.lemmas.List.{take_all, take_more, take-append-drop}
use Rattle.words.specs.Members.{In}
use Rattle.patterns.specs.Bits.{DeviceBit}
use Rattle.links.proofs.Members.{in_either, in_left, in_right}
use Rattle.fabric.specs.InOrder.{IsRising}
use Rattle.fabric.specs.MuxBits.{bit_cmp}
use Rattle.upset.specs.Configured.{Configured}
use Rattle.upset.specs.Safe.{IsBad, only}
use Rattle.bad_bits.specs.Numbered.{NumberedBad}
use Rattle.bad_bits.specs.Found.{IsFoundBad}
use Rattle.bad_bits.specs.Listed.{AreFound}

-- one more element behind all others
pub rising_more : {X : Type 0} (cmp : X → X → Ordering) (xs : List X) (x : X) → IsRising cmp xs → ((y : X) → In xs y → cmp y x ≡ Less) → IsRising cmp (xs ++ x ∷ [])
rising_more cmp [] x r h = ((λ y i. absurd i), tt)
rising_more cmp (z ∷ zs) x r h = (
  (λ y i. elim (in_either zs (x ∷ []) y i) [
    | inl j ↦ r.0 y j
    | inr j ↦ elim j [ inl e ↦ subst (λ w. cmp z w ≡ Less) e (h z (inl refl)) | inr n ↦ absurd n ]
  ]),
  rising_more cmp zs x r.1 (λ y i. h y (inr i)),
)

-- an element comes before those behind it
rising_parts : {X : Type 0} (cmp : X → X → Ordering) (xs ys : List X) → IsRising cmp (xs ++ ys) → (x y : X) → In xs x → In ys y → cmp x y ≡ Less
rising_parts cmp [] ys r x y i j = absurd i
rising_parts cmp (z ∷ zs) ys r x y i j = elim i [
  | inl e ↦ subst (λ w. cmp w y ≡ Less) e (r.0 y (in_right zs ys y j))
  | inr k ↦ rising_parts cmp zs ys r.1 x y k j
]

rising_front : {X : Type 0} (cmp : X → X → Ordering) (xs ys : List X) → IsRising cmp (xs ++ ys) → IsRising cmp xs
rising_front cmp [] ys r = tt
rising_front cmp (z ∷ zs) ys r = ((λ y i. r.0 y (in_left zs ys y i)), rising_front cmp zs ys r.1)

rising_take : {X : Type 0} (cmp : X → X → Ordering) (n : ℕ) (xs : List X) → IsRising cmp xs → IsRising cmp (take n xs)
rising_take cmp n xs r = rising_front cmp (take n xs) (drop n xs) (subst (IsRising cmp) (sym (take-append-drop n xs)) r)

module _ (k : Configured) where
  pub none_found : AreFound k [] []
  none_found = record { rising = tt; each = λ b i. absurd i; all = λ bit i. absurd i }

  -- a bit that isn't bad
  skipped : (bits : List DeviceBit) (bit : DeviceBit) (bad : List NumberedBad) → (IsBad k (only bit) → ⊥) → AreFound k bits bad → AreFound k (bits ++ bit ∷ []) bad
  skipped bits bit bad good h = record {
    rising = h.rising;
    each = λ b i. (in_left bits (bit ∷ []) b.bit (h.each b i).0, (h.each b i).1);
    all = λ x i is_bad. elim (in_either bits (bit ∷ []) x i) [
      | inl j ↦ h.all x j is_bad
      | inr j ↦ elim j [ inl e ↦ absurd (good (subst (λ y. IsBad k (only y)) (sym e) is_bad)) | inr n ↦ absurd n ]
    ];
  }

  -- one that is, behind all others
  added : (bits : List DeviceBit) (bit : DeviceBit) (bad : List NumberedBad) (b : NumberedBad) → IsRising bit_cmp (bits ++ bit ∷ []) → IsFoundBad k bit b → AreFound k bits bad → AreFound k (bits ++ bit ∷ []) (bad ++ b ∷ [])
  added bits bit bad b order found h = record {
    rising = rising_more (λ (x y : NumberedBad). bit_cmp x.bit y.bit) bad b h.rising
        (λ x i. subst (λ z. bit_cmp x.bit z ≡ Less) (sym found.bit_is) (rising_parts bit_cmp bits (bit ∷ []) order x.bit bit (h.each x i).0 (inl refl)));
    each = λ x i. elim (in_either bad (b ∷ []) x i) [
      | inl j ↦ (in_left bits (bit ∷ []) x.bit (h.each x j).0, (h.each x j).1)
      | inr j ↦ elim j [
        | inl e ↦ subst (λ (y : NumberedBad). In (bits ++ bit ∷ []) y.bit × IsFoundBad k y.bit y) e
            (in_right bits (bit ∷ []) b.bit (inl (sym found.bit_is)), subst (λ z. IsFoundBad k z b) (sym found.bit_is) found)
        | inr n ↦ absurd n
      ]
    ];
    all = λ x i is_bad. elim (in_either bits (bit ∷ []) x i) [
      | inl j ↦ (let r = h.all x j is_bad in (r.0, (in_left bad (b ∷ []) r.0 r.1.0, r.1.1)))
      | inr j ↦ elim j [
        | inl e ↦ (b, (in_right bad (b ∷ []) b (inl refl), found.bit_is ∙ e))
        | inr n ↦ absurd n
      ]
    ];
  }

  -- the elements so far, as a loop meets them
  front : (bits : List DeviceBit) (i : ℕ) (bit : DeviceBit) → i < length bits → bit ≡ get_or bits i bit → take (i + 1) bits ≡ take i bits ++ bit ∷ []
  front bits i bit below is = take_more bits i bit below ∙ ap (λ z. take i bits ++ z ∷ []) (sym is)

  pub skip_more : (bits : List DeviceBit) (i : ℕ) (bit : DeviceBit) (bad : List NumberedBad) → i < length bits → bit ≡ get_or bits i bit → (IsBad k (only bit) → ⊥) → AreFound k (take i bits) bad → AreFound k (take (i + 1) bits) bad
  skip_more bits i bit bad below is good h = subst (λ zs. AreFound k zs bad) (sym (front bits i bit below is)) (skipped (take i bits) bit bad good h)

  pub add_more : (bits : List DeviceBit) (i : ℕ) (bit : DeviceBit) (bad more : List NumberedBad) (b : NumberedBad) → i < length bits → bit ≡ get_or bits i bit → IsRising bit_cmp bits → more ≡ bad ++ b ∷ [] → IsFoundBad k bit b
      → AreFound k (take i bits) bad → AreFound k (take (i + 1) bits) more
  add_more bits i bit bad more b below is rising made found h =
      let f = front bits i bit below is in
      let order = subst (IsRising bit_cmp) f (rising_take bit_cmp (i + 1) bits rising) in
      subst (λ zs. AreFound k zs more) (sym f) (subst (λ ms. AreFound k (take i bits ++ bit ∷ []) ms) (sym made) (added (take i bits) bit bad b order found h))

  pub all_found : (bits : List DeviceBit) (i : ℕ) (bad : List NumberedBad) → length bits ≤ i → AreFound k (take i bits) bad → AreFound k bits bad
  all_found bits i bad past h = subst (λ zs. AreFound k zs bad) (take_all i bits past) h
