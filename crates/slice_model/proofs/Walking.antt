-- Lists that are walked from the first element to the last.
use Rattle.std.proofs.Common.{◌≡◌, ℕ, zero, suc, ◌+◌, ◌<◌, ◌≤◌, List, [], ◌∷◌, ◌++◌, map, flat_map, drop, length, get_or, inl, inr, Option, Some, refl, sym, ap, ◌∙◌, arith}
use Rattle.std.specs.Prelude.{filter_map}
use Rattle.std.specs.List.{cons_option}
use Rattle.std.proofs.lemmas.List.{append-nil, append_assoc, drop_more, drop_all}
use Rattle.words.specs.Members.{In}

pub item_in : {X : Type 0} (xs : List X) (i : ℕ) (x : X) → i < length xs → x ≡ get_or xs i x → In xs x
item_in [] i x l e = absurd (let no : ⊥ = omega arith in no)
item_in (y ∷ ys) zero x l e = inl (sym e)
item_in (y ∷ ys) (suc i) x l e = inr (item_in ys i x (let k : i < length ys = omega arith in k) e)

-- what is made of the next element comes behind what was made
pub flat_more : {X Y : Type 0} (f : X → List Y) (xs : List X) (i : ℕ) (d : X) (ys more whole : List Y) → i < length xs
    → ys ++ flat_map f (drop i xs) ≡ whole → more ≡ ys ++ f (get_or xs i d)
    → more ++ flat_map f (drop (i + 1) xs) ≡ whole
flat_more f xs i d ys more whole below all is =
    let rest = flat_map f (drop (i + 1) xs) in
    ap (λ zs. zs ++ rest) is ∙ (append_assoc ys (f (get_or xs i d)) rest ∙ (ap (λ zs. ys ++ zs) (sym (ap (flat_map f) (drop_more xs i d below))) ∙ all))

pub flat_all : {X Y : Type 0} (f : X → List Y) (xs : List X) (i : ℕ) (ys whole : List Y) → length xs ≤ i → ys ++ flat_map f (drop i xs) ≡ whole → ys ≡ whole
flat_all f xs i ys whole over all =
    sym (append-nil ys) ∙ (ap (λ zs. ys ++ zs) (sym (ap (flat_map f) (drop_all i xs over))) ∙ all)

pub map_more : {X Y : Type 0} (f : X → Y) (xs : List X) (i : ℕ) (d : X) (ys more whole : List Y) → i < length xs
    → ys ++ map f (drop i xs) ≡ whole → more ≡ ys ++ f (get_or xs i d) ∷ []
    → more ++ map f (drop (i + 1) xs) ≡ whole
map_more f xs i d ys more whole below all is =
    let rest = map f (drop (i + 1) xs) in
    ap (λ zs. zs ++ rest) is ∙ (append_assoc ys (f (get_or xs i d) ∷ []) rest ∙ (ap (λ zs. ys ++ zs) (sym (ap (map f) (drop_more xs i d below))) ∙ all))

pub map_all : {X Y : Type 0} (f : X → Y) (xs : List X) (i : ℕ) (ys whole : List Y) → length xs ≤ i → ys ++ map f (drop i xs) ≡ whole → ys ≡ whole
map_all f xs i ys whole over all =
    sym (append-nil ys) ∙ (ap (λ zs. ys ++ zs) (sym (ap (map f) (drop_all i xs over))) ∙ all)

-- what is made of those of which something is made
pub kept_more : {X Y : Type 0} (f : X → Option Y) (xs : List X) (i : ℕ) (d : X) (y : Y) (ys more whole : List Y) → i < length xs
    → ys ++ filter_map f (drop i xs) ≡ whole → f (get_or xs i d) ≡ Some y → more ≡ ys ++ y ∷ []
    → more ++ filter_map f (drop (i + 1) xs) ≡ whole
kept_more f xs i d y ys more whole below all made is =
    let rest = filter_map f (drop (i + 1) xs) in
    ap (λ zs. zs ++ rest) is
    ∙ (append_assoc ys (y ∷ []) rest
    ∙ (ap (λ o. ys ++ cons_option o rest) (sym made) ∙ (ap (λ zs. ys ++ zs) (sym (ap (filter_map f) (drop_more xs i d below))) ∙ all)))

pub kept_all : {X Y : Type 0} (f : X → Option Y) (xs : List X) (i : ℕ) (ys whole : List Y) → length xs ≤ i → ys ++ filter_map f (drop i xs) ≡ whole → ys ≡ whole
kept_all f xs i ys whole over all =
    sym (append-nil ys) ∙ (ap (λ zs. ys ++ zs) (sym (ap (filter_map f) (drop_all i xs over))) ∙ all)

pub filter_mapped : {X Y Z : Type 0} (f : Y → Option Z) (h : X → Y) (xs : List X) → filter_map f (map h xs) ≡ filter_map (λ x. f (h x)) xs
filter_mapped f h [] = refl
filter_mapped f h (x ∷ xs) = ap (cons_option (f (h x))) (filter_mapped f h xs)

-- what is added behind what was added
pub both_added : {Y : Type 0} (old one more two : List Y) (ws es : List Y) → one ≡ old ++ ws → more ≡ one ++ es → two ≡ more → two ≡ old ++ (ws ++ es)
both_added old one more two ws es a b e = e ∙ (b ∙ (ap (λ ys. ys ++ es) a ∙ append_assoc old ws es))
