-- Bits of pairs in bit order get numbers one by one.
use Rattle.std.proofs.Common.{◌≡◌, ◌≢◌, ℕ, ◌+◌, ◌-◌, ◌<◌, ◌≤◌, Bool, true, false, List, [], ◌∷◌, ◌++◌, map, length, take, get_or, Some, None, Option, inl, inr, refl, sym, ap, ap₂, subst, ◌∙◌, arith, length-append}
use Rattle.std.specs.Prelude.{slice_get, if◌then◌else◌}
use Rattle.std.specs.Option.{option_map_or}
use Rattle.std.specs.Ordering.{nat_cmp, ordering_then, ordering_reverse}
use Rattle.std.specs.FinMap.{nat_cmp-IsAntisymmetric}
use Rattle.std.specs.declared.cmp.Ordering.{Ordering}
use Rattle.std.specs.declared.cmp.Ordering.TheVariants.{Less, Equal, Greater}
use Rattle.std.proofs.lemmas.Bool.{false≢true}
use Rattle.std.proofs.lemmas.List.{map-append, take_more}
use Rattle.words.specs.Members.{In}
use Rattle.links.proofs.Members.{in_left, in_right, in_either, of_map}
use Rattle.patterns.specs.Bits.{DeviceBit, same_bit}
use Rattle.fabric.specs.InOrder.{IsRising}
use Rattle.fabric.specs.MuxBits.{bit_cmp}
use Rattle.fabric_laws.proofs.SameBits.{same_is, same_refl}
use Rattle.fabric_laws.proofs.Orders.{first_ties, second_ties}
use Rattle.graph_lists.proofs.Listed.{equal_is}
use Rattle.graph_lists.proofs.BitsOf.{bit_total}
use Rattle.bit_rows.specs.MuxBits.{MuxBit, bit_first, mux_first}
use Rattle.bit_rows.specs.Numbered.{AreNumbered, ends_with, with_last}
use Rattle.bit_rows.proofs.Rising.{before_place, get_below, get_end, get_front, last_of, rising_push}

pub bit_tied : (b : DeviceBit) → bit_cmp b b ≡ Equal
bit_tied b = rw (equal_is b.frame b.frame refl, equal_is b.bit b.bit refl) refl

pub first_tied : (p : MuxBit) → bit_first p p ≡ Equal
first_tied p = rw (equal_is p.bit.frame p.bit.frame refl, equal_is p.bit.bit p.bit.bit refl, equal_is p.mux p.mux refl) refl

-- two bits that tie are one
pub bit_ties : (x y : DeviceBit) → bit_cmp x y ≡ Equal → y ≡ x
bit_ties x y e =
    let frames = nat_cmp-IsAntisymmetric x.frame y.frame (first_ties (nat_cmp x.frame y.frame) (nat_cmp x.bit y.bit) e) in
    let bits = nat_cmp-IsAntisymmetric x.bit y.bit (second_ties (nat_cmp x.frame y.frame) (nat_cmp x.bit y.bit) e) in
    λ i. record { frame = sym frames i; bit = sym bits i }

-- a list of numbered bits, once one more bit stands at the end
still_numbered : (bits : List DeviceBit) (more : DeviceBit) (numbers : List ℕ) (pairs : List MuxBit) → map (slice_get bits) numbers ≡ map (λ p. Some p.bit) pairs
    → map (slice_get (bits ++ more ∷ [])) numbers ≡ map (λ p. Some p.bit) pairs
still_numbered bits more [] [] h = refl
still_numbered bits more [] (p ∷ pairs) h = absurd (let no : ⊥ = cc in no)
still_numbered bits more (n ∷ numbers) [] h = absurd (let no : ⊥ = cc in no)
still_numbered bits more (n ∷ numbers) (p ∷ pairs) h =
    let here : slice_get bits n ≡ Some p.bit = cc in
    let rest : map (slice_get bits) numbers ≡ map (λ p. Some p.bit) pairs = cc in
    ap₂ (λ a b. a ∷ b) (get_front bits more p.bit n here) (still_numbered bits more numbers pairs rest)

-- the last bit, told by the test
ends_from : (o : Option DeviceBit) (b : DeviceBit) → option_map_or (same_bit b) o false ≡ true → o ≡ Some b
ends_from None b h = absurd (false≢true h)
ends_from (Some l) b h = ap (λ x. Some x) (sym (same_is b l h))

-- the numbers once one more pair is there
pub record NextNumbered (pairs : List MuxBit) (bits more : List DeviceBit) (numbers : List ℕ) : Type 0 where
  pub are : AreNumbered pairs more (numbers ++ (length more - 1) ∷ [])
  pub some : 0 < length more
  pub few : length more ≤ length bits + 1

module _ (front : List MuxBit) (pair : MuxBit) (bits : List DeviceBit) (numbers : List ℕ) (are : AreNumbered front bits numbers)
    (later : (p : MuxBit) → In front p → bit_cmp p.bit pair.bit ≢ Greater) where
  abbrev b : DeviceBit
  b = pair.bit

  -- where the last bit is another one, all bits come before this one
  all_before : ends_with bits b ≡ false → (y : DeviceBit) → In bits y → bit_cmp y b ≡ Less
  all_before not_last y i = go (bit_cmp y b) refl
    where
      at_most : (z : DeviceBit) → In bits z → bit_cmp z b ≢ Greater
      at_most z j = let found = of_map (λ (p : MuxBit). p.bit) front z (are.named z j) in
          subst (λ w. bit_cmp w b ≢ Greater) found.1.1 (later found.0 found.1.0)

      last_is : (l : DeviceBit) → slice_get bits (length bits - 1) ≡ Some l → l ≡ b → ⊥
      last_is l h e =
          let ends : ends_with bits b ≡ true = ap (λ o. option_map_or (same_bit b) o false) h ∙ subst (λ w. same_bit b w ≡ true) (sym e) (same_refl b) in
          false≢true (sym not_last ∙ ends)

      go : (o : Ordering) → bit_cmp y b ≡ o → bit_cmp y b ≡ Less
      go Less e = e
      go Greater e = absurd (at_most y i e)
      go Equal e =
          let same : b ≡ y = bit_ties y b e in
          let last = last_of bit_cmp bits y are.rising i in
          elim last.1.1.1 [
            | inl s ↦ absurd (last_is last.0 last.1.0 (sym s ∙ sym same))
            | inr l ↦ absurd (at_most last.0 last.1.1.0 (bit_total.antisymm last.0 b ∙ ap ordering_reverse (subst (λ w. bit_cmp w last.0 ≡ Less) (sym same) l)))
          ]

  -- the bits named so far are named with one more pair
  old_named : (y : DeviceBit) → In (map (λ p. p.bit) front) y → In (map (λ p. p.bit) (front ++ pair ∷ [])) y
  old_named y i = subst (λ ys. In ys y) (sym (map-append (λ (p : MuxBit). p.bit) front (pair ∷ []))) (in_left (map (λ p. p.bit) front) (b ∷ []) y i)

  new_named : (y : DeviceBit) → b ≡ y → In (map (λ p. p.bit) (front ++ pair ∷ [])) y
  new_named y e = subst (λ ys. In ys y) (sym (map-append (λ (p : MuxBit). p.bit) front (pair ∷ []))) (in_right (map (λ p. p.bit) front) (b ∷ []) y (inl e))

  numbered_end : (more : List DeviceBit) (n : ℕ) → map (slice_get more) numbers ≡ map (λ p. Some p.bit) front → slice_get more n ≡ Some b
      → map (slice_get more) (numbers ++ n ∷ []) ≡ map (λ p. Some p.bit) (front ++ pair ∷ [])
  numbered_end more n so_far here =
      map-append (slice_get more) numbers (n ∷ []) ∙ (λ j. so_far j ++ here j ∷ []) ∙ sym (map-append (λ (p : MuxBit). Some p.bit) front (pair ∷ []))

  next : NextNumbered (front ++ pair ∷ []) bits (with_last bits b) numbers
  next = go (ends_with bits b) refl
    where
      go : (t : Bool) → ends_with bits b ≡ t → NextNumbered (front ++ pair ∷ []) bits (if t then bits else bits ++ b ∷ []) numbers
      go true e =
          let here = ends_from (slice_get bits (length bits - 1)) b e in
          let within = get_below bits (length bits - 1) b here in
          record {
            are = record {
              rising = are.rising;
              named = λ y i. old_named y (are.named y i);
              numbered = numbered_end bits (length bits - 1) are.numbered here;
              few = omega (arith, are.few, length-append front (pair ∷ []));
            };
            some = omega arith;
            few = omega arith;
          }
      go false e =
          let long = length-append bits (b ∷ []) in
          let place : length bits ≡ length (bits ++ b ∷ []) - 1 = omega arith in
          record {
            are = record {
              rising = rising_push bit_cmp bits b are.rising (all_before e);
              named = λ y i. elim (in_either bits (b ∷ []) y i) [ inl j ↦ old_named y (are.named y j) | inr j ↦ elim j [ inl s ↦ new_named y s | inr n ↦ absurd n ] ];
              numbered = numbered_end (bits ++ b ∷ []) (length (bits ++ b ∷ []) - 1) (still_numbered bits b numbers front are.numbered)
                  (ap (slice_get (bits ++ b ∷ [])) (sym place) ∙ get_end bits b);
              few = omega (arith, are.few, long, length-append front (pair ∷ []));
            };
            some = omega arith;
            few = omega arith;
          }

not_greater : (a c : Ordering) → ordering_then a c ≡ Less → a ≢ Greater
not_greater Less c h g = let no : ⊥ = cc in no
not_greater Equal c h g = let no : ⊥ = cc in no
not_greater Greater c h g = let no : ⊥ = cc in no

-- one more pair of a list in bit order
pub number_one : (pairs : List MuxBit) (i : ℕ) (pair : MuxBit) (bits : List DeviceBit) (numbers : List ℕ) → IsRising bit_first pairs → i < length pairs → pair ≡ get_or pairs i pair
    → AreNumbered (take i pairs) bits numbers → NextNumbered (take (i + 1) pairs) bits (with_last bits pair.bit) numbers
number_one pairs i pair bits numbers rising within is are =
    let whole : take i pairs ++ pair ∷ [] ≡ take (i + 1) pairs = ap (λ p. take i pairs ++ p ∷ []) is ∙ sym (take_more pairs i pair within) in
    let later : (p : MuxBit) → In (take i pairs) p → bit_cmp p.bit pair.bit ≢ Greater = λ p j.
    not_greater (bit_cmp p.bit pair.bit) (mux_first p pair) (subst (λ q. bit_first p q ≡ Less) (sym is) (before_place bit_first pairs i pair p rising within j)) in
    subst (λ front. NextNumbered front bits (with_last bits pair.bit) numbers) whole (next (take i pairs) pair bits numbers are later)
