-- Bits that are put in order one after the other, and moved to a tile.
use Rattle.std.proofs.Common.{◌≡◌, ℕ, ◌+◌, ◌⊎◌, inl, inr, List, [], ◌∷◌, ◌++◌, map, refl, sym, ap, subst, arith}
use Rattle.std.specs.declared.cmp.Ordering.{Ordering}
use Rattle.std.specs.declared.cmp.Ordering.TheVariants.{Less}
use Rattle.std.specs.Ordering.{match_ordering, nat_cmp}
use Rattle.std.specs.BTreeSet.{insert_key}
use Rattle.std.proofs.lemmas.Bool.Decides.{nat_tests}
use Rattle.words.specs.Members.{In}
use Rattle.links.proofs.Members.{of_map}
use Rattle.patterns.specs.Bits.{DeviceBit}
use Rattle.fabric.specs.InOrder.{IsRising, InOrderOnce}
use Rattle.fabric.specs.MuxBits.{bit_cmp}
use Rattle.fabric_laws.specs.Insertion.{inserted}
use Rattle.fabric_laws.proofs.Sorted.{inserted_from, inserted_old, inserted_new, inserted_rising}
use Rattle.graph_lists.proofs.BitsOf.{bit_total}
use Rattle.bit_rows.proofs.Numbering.{bit_ties}
use Rattle.record_laws.specs.KeptBits.{put_in, moved}

-- in two parts
pub put_both : (bits xs ys : List DeviceBit) → put_in bits (xs ++ ys) ≡ put_in (put_in bits xs) ys
put_both bits [] ys = refl
put_both bits (x ∷ xs) ys = put_both (insert_key bit_cmp bits x) xs ys

-- a set puts a bit where insertion puts it
as_inserted : (bits : List DeviceBit) (b : DeviceBit) → insert_key bit_cmp bits b ≡ inserted bit_cmp b bits
as_inserted [] b = refl
as_inserted (x ∷ xs) b = ap (λ rest. match_ordering (bit_cmp b x) (b ∷ x ∷ xs) (x ∷ xs) (x ∷ rest)) (as_inserted xs b)

put_from : (bits more : List DeviceBit) (z : DeviceBit) → In (put_in bits more) z → In bits z ⊎ In more z
put_from bits [] z i = inl i
put_from bits (b ∷ more) z i = elim (put_from (insert_key bit_cmp bits b) more z i) [
  | inl j ↦ elim (inserted_from bit_cmp bit_total b bits z (subst (λ xs. In xs z) (as_inserted bits b) j)) [ inl e ↦ inr (inl e) | inr k ↦ inl k ]
  | inr j ↦ inr (inr j)
]

put_old : (bits more : List DeviceBit) (z : DeviceBit) → In bits z → In (put_in bits more) z
put_old bits [] z i = i
put_old bits (b ∷ more) z i = put_old (insert_key bit_cmp bits b) more z (subst (λ xs. In xs z) (sym (as_inserted bits b)) (inserted_old bit_cmp bit_total b bits z i))

there : (b : DeviceBit) (bits : List DeviceBit) → In (insert_key bit_cmp bits b) b
there b bits = subst (λ xs. In xs b) (sym (as_inserted bits b)) (inserted_new bit_cmp bit_total b bits (λ y i e. bit_ties b y e))

put_new : (bits more : List DeviceBit) (z : DeviceBit) → In more z → In (put_in bits more) z
put_new bits [] z i = absurd i
put_new bits (b ∷ more) z i = elim i [
  | inl e ↦ put_old (insert_key bit_cmp bits b) more z (subst (In (insert_key bit_cmp bits b)) e (there b bits))
  | inr j ↦ put_new (insert_key bit_cmp bits b) more z j
]

put_rising : (bits more : List DeviceBit) → IsRising bit_cmp bits → IsRising bit_cmp (put_in bits more)
put_rising bits [] r = r
put_rising bits (b ∷ more) r = put_rising (insert_key bit_cmp bits b) more (subst (IsRising bit_cmp) (sym (as_inserted bits b)) (inserted_rising bit_cmp bit_total b bits r))

-- bits that are put in from nothing on are these bits in order, each once
pub in_order_once : (named : List DeviceBit) → InOrderOnce bit_cmp named (put_in [] named)
in_order_once named = record {
  rising = put_rising [] named tt;
  members = λ z. ((λ i. elim (put_from [] named z i) [ inl j ↦ absurd j | inr j ↦ j ]), put_new [] named z);
}

-- ---- moved bits

shifted : (o a b : ℕ) → nat_cmp (o + a) (o + b) ≡ nat_cmp a b
shifted o a b = grind (arith, nat_tests)

pub moved_cmp : (o a b : DeviceBit) → bit_cmp (moved o a) (moved o b) ≡ bit_cmp a b
moved_cmp o a b = rw (shifted o.frame a.frame b.frame, shifted o.bit a.bit b.bit) refl

-- what is made of the elements of a rising list rises, where the order is kept
pub rising_map : {X Y : Type 0} (cmp : X → X → Ordering) (other : Y → Y → Ordering) (f : X → Y) → ((x y : X) → cmp x y ≡ Less → other (f x) (f y) ≡ Less)
    → (xs : List X) → IsRising cmp xs → IsRising other (map f xs)
rising_map cmp other f step [] r = tt
rising_map {X} {Y} cmp other f step (x ∷ xs) r = (later, rising_map cmp other f step xs r.1)
  where
    later : (y : Y) → In (map f xs) y → other (f x) y ≡ Less
    later y i = let found = of_map f xs y i in subst (λ z. other (f x) z ≡ Less) found.1.1 (step x found.0 (r.0 found.0 found.1.0))
