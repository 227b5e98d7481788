-- Names with the place of the first triple in which they stand, as a triple is added.
use Rattle.std.proofs.Common.{◌≡◌, ◌+◌, ◌<◌, ◌≤◌, ◌||◌, ℕ, Bool, true, false, not, cond, eqb, List, [], ◌∷◌, ◌++◌, length, map, take, get_or, position, nat_lt, nat_cmp, bytes_eq, Option, Some, None, refl, sym, ap, ◌∙◌, Bor, arith}
use Rattle.std.specs.Ordering.{is_eq}
use Rattle.std.specs.List.{position_or_len}
use Rattle.std.specs.Cmp.Lexicographic.{slice_cmp}
use Rattle.std.specs.BTreeMap.{BTreeMap, get}
use Rattle.std.proofs.lemmas.Cmp.{nat_list_eq_equiv}
use Rattle.std.proofs.lemmas.Map.Text.{is_eq-slice_cmp}
use Rattle.std.proofs.lemmas.List.Folds.{position_or_len_push}
use Rattle.std.proofs.lemmas.Bool.{eqb-true, eqb-false, lt-ltb, le-ltb}
use Rattle.std.proofs.lemmas.List.{length-append, length-map, length-take, map_more, take_all}
use Rattle.std.proofs.lemmas.List.Sums.{prefix_len-le-length}
use Rattle.std.proofs.lemmas.Slice.Eq.{bytes_eq-Decides}
use Rattle.records.specs.Side.{Triple}
use Rattle.circuit.specs.Triples.{is_entry}
use Rattle.part_triples.specs.Places.{AddsPlace, HoldsPlaces, or_place, place_in}

-- a name as a map looks it up
abbrev lent : List ℕ → Bor (List ℕ)
lent name = record { ref_ptr = (0, 0); now = name }

-- texts that tie in byte order are equal
text_ties : (a b : List ℕ) → is_eq (slice_cmp nat_cmp a b) ≡ bytes_eq b a
text_ties a b = is_eq-slice_cmp a b ∙ nat_list_eq_equiv.symm a b

fails : (o : Option ℕ) (n : ℕ) → o ≡ or_place o false n
fails None n = refl
fails (Some i) n = refl

-- a name that had no place gets one
pub name_added : (key : Bor (List ℕ)) (name : List ℕ) (n : ℕ) (old new : BTreeMap (Bor (List ℕ)) ℕ) → key.now ≡ name → place_in old name ≡ None
    → ((q : Bor (List ℕ)) → get (λ a b. slice_cmp nat_cmp a.now b.now) new q ≡ cond (is_eq (slice_cmp nat_cmp key.now q.now)) (Some n) (get (λ a b. slice_cmp nat_cmp a.now b.now) old q))
    → AddsPlace (λ q. bytes_eq q name) n old new
name_added key name n old new is absent updated q =
    updated (lent q)
    ∙ ap (λ t. cond t (Some n) (place_in old q)) (ap (λ k. is_eq (slice_cmp nat_cmp k q)) is ∙ text_ties name q)
    ∙ go (bytes_eq q name) refl
  where
    go : (b : Bool) → bytes_eq q name ≡ b → cond b (Some n) (place_in old q) ≡ or_place (place_in old q) b n
    go true same = sym (ap (λ o. or_place o true n) (ap (place_in old) ((bytes_eq-Decides q name).0 same) ∙ absent))
    go false other = fails (place_in old q) n

has_place : (o : Option ℕ) (i n : ℕ) (b : Bool) → o ≡ Some i → o ≡ or_place o b n
has_place o i n b h = h ∙ sym (ap (λ x. or_place x b n) h)

-- a name that has a place keeps it
pub name_stays : (name : List ℕ) (i n : ℕ) (old : BTreeMap (Bor (List ℕ)) ℕ) → place_in old name ≡ Some i → AddsPlace (λ q. bytes_eq q name) n old old
name_stays name i n old has q = go (bytes_eq q name) refl
  where
    go : (b : Bool) → bytes_eq q name ≡ b → place_in old q ≡ or_place (place_in old q) b n
    go true same = has_place (place_in old q) i n true (ap (place_in old) ((bytes_eq-Decides q name).0 same) ∙ has)
    go false other = fails (place_in old q) n

thrice : (o : Option ℕ) (x y z : Bool) (n : ℕ) → or_place (or_place (or_place o x n) y n) z n ≡ or_place o (x || (y || (z || false))) n
thrice (Some i) x y z n = refl
thrice None true y z n = refl
thrice None false true z n = refl
thrice None false false true n = refl
thrice None false false false n = refl

-- the three names of a triple
pub triple_added : (t : Triple) (n : ℕ) (a b c d : BTreeMap (Bor (List ℕ)) ℕ) → AddsPlace (λ q. bytes_eq q t.first) n a b → AddsPlace (λ q. bytes_eq q t.second) n b c → AddsPlace (λ q. bytes_eq q t.third) n c d
    → AddsPlace (λ q. is_entry q t) n a d
triple_added t n a b c d first second third q =
    third q ∙ (ap (λ o. or_place o (bytes_eq q t.third) n) (second q ∙ ap (λ o. or_place o (bytes_eq q t.second) n) (first q))
    ∙ thrice (place_in a q) (bytes_eq q t.first) (bytes_eq q t.second) (bytes_eq q t.third) n)

-- ---- the first place in a list with one element more

placed : (m n : ℕ) (b e : Bool) → m ≤ n → eqb m n ≡ e
    → cond (nat_lt (cond e (n + cond b 0 1) m) (n + 1)) (Some (cond e (n + cond b 0 1) m)) None ≡ or_place (cond (nat_lt m n) (Some m) None) b n
placed m n b false le ne =
    let apart = eqb-false m n ne in
    let below : m < n = omega arith in
    ap (λ t. cond t (Some m) None) (lt-ltb m (n + 1) (omega arith)) ∙ sym (ap (λ t. or_place (cond t (Some m) None) b n) (lt-ltb m n below))
placed m n b true le same =
    let e = eqb-true m n same in
    let none = sym (ap (λ t. or_place (cond t (Some m) None) b n) (le-ltb m n (omega arith))) in
    here b ∙ none
  where
    here : (b : Bool) → cond (nat_lt (n + cond b 0 1) (n + 1)) (Some (n + cond b 0 1)) None ≡ or_place None b n
    here true = ap (λ t. cond t (Some (n + 0)) None) (lt-ltb (n + 0) (n + 1) (omega arith)) ∙ ap (λ k. Some k) (let z : n + 0 ≡ n = omega arith in z)
    here false = ap (λ t. cond t (Some (n + 1)) None) (le-ltb (n + 1) (n + 1) (omega arith))

position_push : {X : Type 0} (p : X → Bool) (xs : List X) (y : X) → position p (xs ++ y ∷ []) ≡ or_place (position p xs) (p y) (length xs)
position_push p xs y =
    let pushed = position_or_len_push p xs y in
    let long : length (xs ++ y ∷ []) ≡ length xs + 1 = length-append xs (y ∷ []) in
    (λ i. cond (nat_lt (pushed i) (long i)) (Some (pushed i)) None)
    ∙ placed (position_or_len p xs) (length xs) (p y) (eqb (position_or_len p xs) (length xs)) (prefix_len-le-length (λ x. not (p x)) xs) refl

-- one triple more
pub places_more : (ts : List (Bor Triple)) (i : ℕ) (d : Bor Triple) (old new : BTreeMap (Bor (List ℕ)) ℕ) → i < length ts → HoldsPlaces (map (λ t. t.now) (take i ts)) old
    → AddsPlace (λ q. is_entry q (get_or ts i d).now) i old new → HoldsPlaces (map (λ t. t.now) (take (i + 1) ts)) new
places_more ts i d old new below held added q =
    let now : Bor Triple → Triple = λ t. t.now in
    let before = map now (take i ts) in
    let long : length before ≡ i = length-map (take i ts) now ∙ (let n = length-take i ts in omega arith) in
    added q
    ∙ (ap (λ o. or_place o (is_entry q (get_or ts i d).now) i) (held q)
    ∙ (ap (or_place (position (is_entry q) before) (is_entry q (get_or ts i d).now)) (sym long)
    ∙ (sym (position_push (is_entry q) before (now (get_or ts i d)))
    ∙ sym (ap (position (is_entry q)) (map_more now ts i d below)))))

-- all triples
pub places_all : (ts : List (Bor Triple)) (i : ℕ) (places : BTreeMap (Bor (List ℕ)) ℕ) → length ts ≤ i → HoldsPlaces (map (λ t. t.now) (take i ts)) places → HoldsPlaces (map (λ t. t.now) ts) places
places_all ts i places over held q = held q ∙ ap (λ xs. position (is_entry q) (map (λ (t : Bor Triple). t.now) xs)) (take_all i ts over)
