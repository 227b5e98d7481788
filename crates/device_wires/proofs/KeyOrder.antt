-- Keys are in wire order, and a set of keys is wires in order.
use Rattle.std.proofs.Common.{◌≡◌, ◌≤◌, ◌<◌, ◌⊎◌, inl, inr, List, [], ◌∷◌, map, length, true, false, ◌||◌, Option, Some, refl, sym, ap, subst, ◌∙◌, arith}
use Rattle.std.specs.Prelude.{option_to_list}
use Rattle.std.proofs.lemmas.List.{length-map}
use Rattle.std.specs.declared.cmp.Ordering.{Ordering}
use Rattle.std.specs.declared.cmp.Ordering.TheVariants.{Less, Equal, Greater}
use Rattle.std.specs.Ordering.{match_ordering, is_eq}
use Rattle.std.specs.List.{list_any}
use Rattle.std.specs.BTreeMap.{is_at}
use Rattle.std.specs.BTreeSet.{insert_key}
use Rattle.records.specs.Limits.{most_wires}
use Rattle.fabric.specs.Wires.{Wire, wire_cmp, same_wire}
use Rattle.fabric.specs.WireNames.{WireName, Named, Ignored}
use Rattle.fabric.specs.TileWires.{named_wire}
use Rattle.fabric_laws.specs.Insertion.{inserted}
use Rattle.wire_names.specs.Kept.{HasShortBase, IsShortOrIgnored}
use Rattle.device_wires.specs.Gathered.{gathered, AreGathered}
use Rattle.device_wires.specs.declared.keys.WireKey.{WireKey}
use Rattle.device_wires.specs.declared.keys.WireKey.TheVariants.{Local, Wide}
use Rattle.device_wires.specs.contracts.keys.WireKeyOrd.TheImpl.{cmp-value}
use Rattle.device_wires.specs.Keys.{wire_of}
use Rattle.device_wires.proofs.InOrder.{length-inserted, length-inserted_most, length-inserted_known, one_more}

abbrev pub key_cmp : WireKey → WireKey → Ordering
key_cmp = cmp-value.it

pub key_order : (a b : WireKey) → key_cmp a b ≡ wire_cmp (wire_of a) (wire_of b)
key_order (Local r c b) (Local r' c' b') = refl
key_order (Local r c b) (Wide b') = refl
key_order (Wide b) (Local r' c' b') = refl
key_order (Wide b) (Wide b') = refl

-- a key that is put into a set is its wire put in order
pub put_in_order : (keys : List WireKey) (key : WireKey) → map wire_of (insert_key key_cmp keys key) ≡ inserted wire_cmp (wire_of key) (map wire_of keys)
put_in_order [] key = refl
put_in_order (k ∷ ks) key = go (key_cmp key k) (put_in_order ks key) ∙ ap (λ o. match_ordering o (wire_of key ∷ wire_of k ∷ map wire_of ks) (wire_of k ∷ map wire_of ks) (wire_of k ∷ inserted wire_cmp (wire_of key) (map wire_of ks))) (key_order key k)
  where
    go : (o : Ordering) → map wire_of (insert_key key_cmp ks key) ≡ inserted wire_cmp (wire_of key) (map wire_of ks)
        → map wire_of (match_ordering o (key ∷ k ∷ ks) (k ∷ ks) (k ∷ insert_key key_cmp ks key))
        ≡ match_ordering o (wire_of key ∷ wire_of k ∷ map wire_of ks) (wire_of k ∷ map wire_of ks) (wire_of k ∷ inserted wire_cmp (wire_of key) (map wire_of ks))
    go Less ih = refl
    go Equal ih = refl
    go Greater ih = ap (λ ws. wire_of k ∷ ws) ih

-- a key is in a set where its wire is among the wires
pub known_wire : (keys : List WireKey) (key : WireKey) → list_any (is_at (key_cmp key)) keys ≡ list_any (same_wire (wire_of key)) (map wire_of keys)
known_wire [] key = refl
known_wire (k ∷ ks) key = let here = key_order key k in let rest = known_wire ks key in λ i. is_eq (here i) || rest i

-- the wires with that of a key, where it is the one that is named
pub one_wire : (keys : List WireKey) (key : WireKey) (wires : List Wire) (named : Option Wire) → map wire_of keys ≡ wires → Some (wire_of key) ≡ named
    → map wire_of (insert_key key_cmp keys key) ≡ gathered wires (option_to_list named)
one_wire keys key wires named seen is = put_in_order keys key ∙ (λ i. gathered (seen i) (option_to_list (is i)))

-- they are too many where as many as there are numbers are there already, without it
pub one_too_many : (keys : List WireKey) (key : WireKey) (wires : List Wire) (named : Option Wire) → map wire_of keys ≡ wires → Some (wire_of key) ≡ named
    → most_wires ≤ length keys → false ≡ list_any (is_at (key_cmp key)) keys → most_wires < length (gathered wires (option_to_list named))
one_too_many keys key wires named seen is full new =
    let longer = length-inserted (wire_of key) (map wire_of keys) (sym (known_wire keys key) ∙ sym new) in
    let put = ap length (put_in_order keys key) in
    let all = ap length (one_wire keys key wires named seen is) in
    let count = length-map keys wire_of in
    omega arith

-- what a name stands for, if anything, can be kept
pub short_key : (name : WireName) (wire : Wire) → Some wire ≡ named_wire name → IsShortOrIgnored name → HasShortBase wire
short_key (Named w) wire is short = let same : w ≡ wire = cc in subst HasShortBase same short
short_key Ignored wire is short = absurd (let no : ⊥ = cc in no)

-- a key is put in where there is room for it, or where it is known
pub key_more : (keys : List WireKey) (key : WireKey) → AreGathered (map wire_of keys) → HasShortBase (wire_of key)
    → (length keys < most_wires) ⊎ (true ≡ list_any (is_at (key_cmp key)) keys) → AreGathered (map wire_of (insert_key key_cmp keys key))
key_more keys key are short room = subst AreGathered (sym (put_in_order keys key)) (one_more (wire_of key) (map wire_of keys) are short (elim room [
  | inl less ↦ (let longer = length-inserted_most (wire_of key) (map wire_of keys) in let count = length-map keys wire_of in omega arith)
  | inr known ↦ (let same = length-inserted_known (wire_of key) (map wire_of keys) are.rising (sym (known_wire keys key) ∙ sym known) in let few = are.few in omega arith)
]))
