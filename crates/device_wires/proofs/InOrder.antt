-- Wires that are put in order one after the other.
use Rattle.std.proofs.Common.{◌≡◌, ◌≤◌, ◌<◌, ◌+◌, ◌⊎◌, inl, inr, List, [], ◌∷◌, ◌++◌, length, true, false, ◌||◌, None, suc, refl, sym, ap, subst, ◌∙◌, arith}
use Rattle.std.specs.declared.cmp.Ordering.{Ordering}
use Rattle.std.specs.declared.cmp.Ordering.TheVariants.{Less, Equal, Greater}
use Rattle.std.specs.Ordering.{match_ordering, ordering_reverse, is_eq}
use Rattle.std.specs.List.{list_any}
use Rattle.std.specs.Cmp.{tied_itself}
use Rattle.std.proofs.lemmas.Bool.{false≢true}
use Rattle.words.specs.Members.{In}
use Rattle.fabric.specs.InOrder.{IsRising, InOrderOnce}
use Rattle.fabric.specs.Wires.{Wire, wire_cmp, same_wire}
use Rattle.fabric_laws.specs.Insertion.{inserted}
use Rattle.fabric_laws.proofs.Orders.{wire_total, wire_same, same_wire_is}
use Rattle.fabric_laws.proofs.Members.{any_from}
use Rattle.fabric_laws.proofs.Sorted.{inserted_from, inserted_old, inserted_new, inserted_rising}
use Rattle.fabric.specs.GraphOf.{number_of}
use Rattle.wire_names.specs.Kept.{HasShortBase}
use Rattle.wire_names.proofs.Numbers.{no_number}
use Rattle.std.proofs.lemmas.List.{length-append}
use Rattle.records.specs.Limits.{most_wires}
use Rattle.device_wires.specs.Gathered.{gathered, AreGathered}

-- in two parts
pub gathered-append : (wires xs ys : List Wire) → gathered wires (xs ++ ys) ≡ gathered (gathered wires xs) ys
gathered-append wires [] ys = refl
gathered-append wires (x ∷ xs) ys = gathered-append (inserted wire_cmp x wires) xs ys

-- a wire that is put in never makes the list shorter
inserted_longer : (w : Wire) (wires : List Wire) → length wires ≤ length (inserted wire_cmp w wires)
inserted_longer w [] = omega arith
inserted_longer w (x ∷ xs) = go (wire_cmp w x) (inserted_longer w xs)
  where
    go : (o : Ordering) → length xs ≤ length (inserted wire_cmp w xs) → suc (length xs) ≤ length (match_ordering o (w ∷ x ∷ xs) (x ∷ xs) (x ∷ inserted wire_cmp w xs))
    go Less ih = omega arith
    go Equal ih = omega arith
    go Greater ih = omega arith

pub gathered_longer : (wires more : List Wire) → length wires ≤ length (gathered wires more)
gathered_longer wires [] = omega arith
gathered_longer wires (w ∷ more) = let here = inserted_longer w wires in let rest = gathered_longer (inserted wire_cmp w wires) more in omega arith

-- so what is too long stays too long
pub still_many : (wires xs ys : List Wire) → most_wires < length (gathered wires xs) → most_wires < length (gathered wires (xs ++ ys))
still_many wires xs ys many = let longer = gathered_longer (gathered wires xs) ys in let parts = ap length (gathered-append wires xs ys) in omega arith

-- a new wire makes the list longer by one
pub length-inserted : (w : Wire) (wires : List Wire) → list_any (same_wire w) wires ≡ false → length (inserted wire_cmp w wires) ≡ length wires + 1
length-inserted w [] new = omega arith
length-inserted w (x ∷ xs) new = go (wire_cmp w x) new (length-inserted w xs)
  where
    go : (o : Ordering) → (is_eq o || list_any (same_wire w) xs) ≡ false → (list_any (same_wire w) xs ≡ false → length (inserted wire_cmp w xs) ≡ length xs + 1)
        → length (match_ordering o (w ∷ x ∷ xs) (x ∷ xs) (x ∷ inserted wire_cmp w xs)) ≡ suc (length xs) + 1
    go Less k ih = omega arith
    go Equal k ih = absurd (false≢true (sym k))
    go Greater k ih = let e = ih k in omega arith

-- a known one leaves it as it is
pub length-inserted_most : (w : Wire) (wires : List Wire) → length (inserted wire_cmp w wires) ≤ length wires + 1
length-inserted_most w [] = omega arith
length-inserted_most w (x ∷ xs) = go (wire_cmp w x) (length-inserted_most w xs)
  where
    go : (o : Ordering) → length (inserted wire_cmp w xs) ≤ length xs + 1 → length (match_ordering o (w ∷ x ∷ xs) (x ∷ xs) (x ∷ inserted wire_cmp w xs)) ≤ suc (length xs) + 1
    go Less ih = omega arith
    go Equal ih = omega arith
    go Greater ih = omega arith

pub length-inserted_known : (w : Wire) (wires : List Wire) → IsRising wire_cmp wires → list_any (same_wire w) wires ≡ true → length (inserted wire_cmp w wires) ≡ length wires
length-inserted_known w [] rising known = absurd (false≢true known)
length-inserted_known w (x ∷ xs) rising known = go (wire_cmp w x) refl known (length-inserted_known w xs rising.1)
  where
    go : (o : Ordering) → wire_cmp w x ≡ o → (is_eq o || list_any (same_wire w) xs) ≡ true → (list_any (same_wire w) xs ≡ true → length (inserted wire_cmp w xs) ≡ length xs)
        → length (match_ordering o (w ∷ x ∷ xs) (x ∷ xs) (x ∷ inserted wire_cmp w xs)) ≡ suc (length xs)
    go Less e k ih =
        let r = any_from (same_wire w) xs k in
        let same : w ≡ r.0 = same_wire_is w r.0 r.2 in
        let below : wire_cmp x w ≡ Less = subst (λ z. wire_cmp x z ≡ Less) (sym same) (rising.0 r.0 r.1) in
        let turned = wire_total.antisymm x w in
        absurd (let no : ⊥ = (let e2 : ordering_reverse (wire_cmp w x) ≡ Greater = ap ordering_reverse e in cc) in no)
    go Equal e k ih = refl
    go Greater e k ih = ap suc (ih k)

-- what is in wires with more put in
gathered_in : (wires more : List Wire) (z : Wire) → In (gathered wires more) z → In wires z ⊎ In more z
gathered_in wires [] z i = inl i
gathered_in wires (w ∷ more) z i = elim (gathered_in (inserted wire_cmp w wires) more z i) [
  | inl j ↦ elim (inserted_from wire_cmp wire_total w wires z j) [ inl e ↦ inr (inl e) | inr k ↦ inl k ]
  | inr j ↦ inr (inr j)
]

gathered_old : (wires more : List Wire) (z : Wire) → In wires z → In (gathered wires more) z
gathered_old wires [] z i = i
gathered_old wires (w ∷ more) z i = gathered_old (inserted wire_cmp w wires) more z (inserted_old wire_cmp wire_total w wires z i)

put_in : (w : Wire) (wires : List Wire) → In (inserted wire_cmp w wires) w
put_in w wires = inserted_new wire_cmp wire_total w wires (λ y i e. sym (wire_same w y e))

gathered_new : (wires more : List Wire) (z : Wire) → In more z → In (gathered wires more) z
gathered_new wires [] z i = absurd i
gathered_new wires (w ∷ more) z i = elim i [
  | inl e ↦ gathered_old (inserted wire_cmp w wires) more z (subst (In (inserted wire_cmp w wires)) e (put_in w wires))
  | inr j ↦ gathered_new (inserted wire_cmp w wires) more z j
]

gathered_rising : (wires more : List Wire) → IsRising wire_cmp wires → IsRising wire_cmp (gathered wires more)
gathered_rising wires [] r = r
gathered_rising wires (w ∷ more) r = gathered_rising (inserted wire_cmp w wires) more (inserted_rising wire_cmp wire_total w wires r)

-- wires put in order from nothing on are these wires in order, each once
pub in_order_once : (named : List Wire) → InOrderOnce wire_cmp named (gathered [] named)
in_order_once named = record {
  rising = gathered_rising [] named tt;
  members = λ z. ((λ i. elim (gathered_in [] named z i) [ inl j ↦ absurd j | inr j ↦ j ]), gathered_new [] named z);
}

-- one wire more that can be kept, where there is room
pub one_more : (w : Wire) (wires : List Wire) → AreGathered wires → HasShortBase w → length (inserted wire_cmp w wires) ≤ most_wires → AreGathered (inserted wire_cmp w wires)
one_more w wires are short room = record {
  rising = inserted_rising wire_cmp wire_total w wires are.rising;
  short = λ z i. elim (inserted_from wire_cmp wire_total w wires z i) [ inl e ↦ subst HasShortBase e short | inr j ↦ are.short z j ];
  few = room;
}

-- in a list in order no wire stands twice
pub stands_once : (front rest : List Wire) (w : Wire) → IsRising wire_cmp (front ++ w ∷ rest) → In front w → ⊥
stands_once [] rest w r i = i
stands_once (x ∷ front) rest w r i = elim i [
  | inl e ↦ never x (subst (λ z. wire_cmp x z ≡ Less) (sym e) (r.0 w (behind front)))
  | inr j ↦ stands_once front rest w r.1 j
]
  where
    behind : (xs : List Wire) → In (xs ++ w ∷ rest) w
    behind [] = inl refl
    behind (y ∷ ys) = inr (behind ys)

    never : (z : Wire) → wire_cmp z z ≡ Less → ⊥
    never z less = let tied = tied_itself wire_total z in let no : ⊥ = cc in no

-- a wire that is numbered next: those before it are numbered, it can be kept, and there is a number for it
pub record IsNext (numbered : List Wire) (wire : Wire) : Type 0 where
  pub new : number_of numbered wire ≡ None
  pub short : HasShortBase wire
  pub room : length numbered < most_wires

-- so is each of wires in order, behind those before it
pub is_next : (front rest whole : List Wire) (w : Wire) → AreGathered whole → front ++ w ∷ rest ≡ whole → IsNext front w
is_next front rest whole w are parts = record {
  new = (no_number front w).1 (stands_once front rest w (subst (IsRising wire_cmp) (sym parts) are.rising));
  short = are.short w (subst (λ ws. In ws w) parts (behind front));
  room = (let count = ap length (sym parts) ∙ length-append front (w ∷ rest) in let few = are.few in omega arith);
}
  where
    behind : (xs : List Wire) → In (xs ++ w ∷ rest) w
    behind [] = inl refl
    behind (y ∷ ys) = inr (behind ys)
