-- Numbers of names, as a name is added.
use Rattle.std.proofs.Common.{◌≡◌, ◌+◌, ◌<◌, ◌≤◌, ℕ, Bool, true, false, not, cond, eqb, List, [], ◌∷◌, ◌++◌, length, map, take, get_or, position, nat_lt, nat_cmp, bytes_eq, Option, Some, None, refl, sym, ap, ◌∙◌, Bor, arith}
use Rattle.std.specs.Ordering.{is_eq}
use Rattle.std.specs.List.{position_or_len}
use Rattle.std.specs.Cmp.Lexicographic.{slice_cmp}
use Rattle.std.specs.BTreeMap.{BTreeMap, get}
use Rattle.std.proofs.lemmas.Cmp.{nat_list_eq_equiv}
use Rattle.std.proofs.lemmas.Map.Text.{is_eq-slice_cmp}
use Rattle.std.proofs.lemmas.List.Folds.{position_or_len_push}
use Rattle.std.proofs.lemmas.Bool.{eqb-true, eqb-false, lt-ltb, le-ltb}
use Rattle.std.proofs.lemmas.List.{length-append, map_more}
use Rattle.std.proofs.lemmas.List.Sums.{prefix_len-le-length}
use Rattle.std.proofs.lemmas.Slice.Eq.{bytes_eq-Decides}
use Rattle.name_numbers.specs.Numbers.{HoldsNumbers, each_once, number_of, with_name}

-- texts that tie in byte order are equal
text_ties : (a b : List ℕ) → is_eq (slice_cmp nat_cmp a b) ≡ bytes_eq b a
text_ties a b = is_eq-slice_cmp a b ∙ nat_list_eq_equiv.symm a b

-- a place behind the last, where none passes before
abbrev pub or_last : Option ℕ → Bool → ℕ → Option ℕ
or_last (Some i) b n = Some i
or_last None b n = cond b (Some n) None

placed : (m n : ℕ) (b e : Bool) → m ≤ n → eqb m n ≡ e
    → cond (nat_lt (cond e (n + cond b 0 1) m) (n + 1)) (Some (cond e (n + cond b 0 1) m)) None ≡ or_last (cond (nat_lt m n) (Some m) None) b n
placed m n b false le ne =
    let apart = eqb-false m n ne in
    let below : m < n = omega arith in
    ap (λ t. cond t (Some m) None) (lt-ltb m (n + 1) (omega arith)) ∙ sym (ap (λ t. or_last (cond t (Some m) None) b n) (lt-ltb m n below))
placed m n b true le same =
    let e = eqb-true m n same in
    let none = sym (ap (λ t. or_last (cond t (Some m) None) b n) (le-ltb m n (omega arith))) in
    here b ∙ none
  where
    here : (b : Bool) → cond (nat_lt (n + cond b 0 1) (n + 1)) (Some (n + cond b 0 1)) None ≡ or_last None b n
    here true = ap (λ t. cond t (Some (n + 0)) None) (lt-ltb (n + 0) (n + 1) (omega arith)) ∙ ap (λ k. Some k) (let z : n + 0 ≡ n = omega arith in z)
    here false = ap (λ t. cond t (Some (n + 1)) None) (le-ltb (n + 1) (n + 1) (omega arith))

-- the first place in a list with one element more
position_push : {X : Type 0} (p : X → Bool) (xs : List X) (y : X) → position p (xs ++ y ∷ []) ≡ or_last (position p xs) (p y) (length xs)
position_push p xs y =
    let pushed = position_or_len_push p xs y in
    let long : length (xs ++ y ∷ []) ≡ length xs + 1 = length-append xs (y ∷ []) in
    (λ i. cond (nat_lt (pushed i) (long i)) (Some (pushed i)) None)
    ∙ placed (position_or_len p xs) (length xs) (p y) (eqb (position_or_len p xs) (length xs)) (prefix_len-le-length (λ x. not (p x)) xs) refl

-- a map that gets the number of a new name
pub holds_more : (names : List (List ℕ)) (name : Bor (List ℕ)) (old new : BTreeMap (Bor (List ℕ)) ℕ) → HoldsNumbers names old → number_of names name.now ≡ None
    → ((q : Bor (List ℕ)) → get (λ a b. slice_cmp nat_cmp a.now b.now) new q ≡ cond (is_eq (slice_cmp nat_cmp name.now q.now)) (Some (length names)) (get (λ a b. slice_cmp nat_cmp a.now b.now) old q))
    → HoldsNumbers (names ++ name.now ∷ []) new
holds_more names name old new held absent updated q =
    updated q ∙ ap (λ t. cond t (Some (length names)) (get (λ a b. slice_cmp nat_cmp a.now b.now) old q)) (text_ties name.now q.now)
    ∙ ap (cond (bytes_eq q.now name.now) (Some (length names))) (held q)
    ∙ go (bytes_eq q.now name.now) refl
    ∙ sym (position_push (bytes_eq q.now) names name.now)
  where
    go : (b : Bool) → bytes_eq q.now name.now ≡ b → cond (bytes_eq q.now name.now) (Some (length names)) (number_of names q.now) ≡ or_last (number_of names q.now) (bytes_eq q.now name.now) (length names)
    go true same =
        let none : number_of names q.now ≡ None = ap (number_of names) ((bytes_eq-Decides q.now name.now).0 same) ∙ absent in
        rw (same, none) refl
    go false other = rw other (rest (number_of names q.now))
      where
        rest : (o : Option ℕ) → o ≡ or_last o false (length names)
        rest None = refl
        rest (Some i) = refl

pub each_once-append : (names xs ys : List (List ℕ)) → each_once names (xs ++ ys) ≡ each_once (each_once names xs) ys
each_once-append names [] ys = refl
each_once-append names (x ∷ xs) ys = each_once-append (with_name names x) xs ys

-- one name more of a list
pub each_once_more : {B : Type 0} (now : B → List ℕ) (names : List B) (i : ℕ) (d : B) → i < length names
    → each_once [] (map now (take (i + 1) names)) ≡ with_name (each_once [] (map now (take i names))) (now (get_or names i d))
each_once_more now names i d h =
    ap (each_once []) (map_more now names i d h) ∙ each_once-append [] (map now (take i names)) (now (get_or names i d) ∷ [])

-- the number of a name that was new is that of the last
pub last_number : (names : List (List ℕ)) (name : List ℕ) → number_of names name ≡ None → number_of (names ++ name ∷ []) name ≡ Some (length names)
last_number names name absent =
    position_push (bytes_eq name) names name ∙ rw (absent, (bytes_eq-Decides name name).1 refl) refl
