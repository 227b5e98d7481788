-- Lists that loops have gone over so far.
use Rattle.std.proofs.Common.{◌≡◌, ◌+◌, ◌<◌, ℕ, List, [], ◌∷◌, ◌++◌, map, length, take, get_or, filter, filter_map, Bool, true, false, cond, Option, Some, None, refl, sym, ap, ◌∙◌, append_assoc}
use Rattle.std.specs.Prelude.{flat_map, option_to_list}
use Rattle.std.specs.List.{cons_option}
use Rattle.std.proofs.lemmas.List.{take_more, append-nil}
use Rattle.std.proofs.lemmas.List.Concat.{flat_map-append}
use Rattle.std.proofs.lemmas.List.Elements.{filter_more, filter_map-append}
use Rattle.device_names.specs.TileNames.{names_if}

-- one element more
pub flat_more : {X A : Type 0} (f : X → List A) (front : List A) (xs : List X) (i : ℕ) (d : X) → i < length xs
    → front ++ flat_map f (take (i + 1) xs) ≡ (front ++ flat_map f (take i xs)) ++ f (get_or xs i d)
flat_more f front xs i d h =
    ap (λ ys. front ++ flat_map f ys) (take_more xs i d h)
    ∙ ap (λ pieces. front ++ pieces) (flat_map-append f (take i xs) (get_or xs i d ∷ []) ∙ ap (λ pieces. flat_map f (take i xs) ++ pieces) (append-nil (f (get_or xs i d))))
    ∙ sym (append_assoc front (flat_map f (take i xs)) (f (get_or xs i d)))

-- one element more, which counts where it passes
pub flat_filter_more : {X : Type 0} (f : X → List (List ℕ)) (p : X → Bool) (front : List (List ℕ)) (xs : List X) (i : ℕ) (d : X) → i < length xs
    → front ++ flat_map f (filter p (take (i + 1) xs)) ≡ (front ++ flat_map f (filter p (take i xs))) ++ names_if (p (get_or xs i d)) (f (get_or xs i d))
flat_filter_more f p front xs i d h =
    ap (λ ys. front ++ flat_map f ys) (filter_more p xs i d h)
    ∙ ap (λ pieces. front ++ pieces) (flat_map-append f (filter p (take i xs)) (cond (p (get_or xs i d)) (get_or xs i d ∷ []) []) ∙ ap (λ pieces. flat_map f (filter p (take i xs)) ++ pieces) (alone (p (get_or xs i d))))
    ∙ sym (append_assoc front (flat_map f (filter p (take i xs))) (names_if (p (get_or xs i d)) (f (get_or xs i d))))
  where
    alone : (b : Bool) → flat_map f (cond b (get_or xs i d ∷ []) []) ≡ names_if b (f (get_or xs i d))
    alone true = append-nil (f (get_or xs i d))
    alone false = refl

pub one_mapped : {X Y : Type 0} (h : X → Option Y) (x : X) → filter_map h (x ∷ []) ≡ option_to_list (h x)
one_mapped h x = go (h x)
  where
    go : {Y : Type 0} (o : Option Y) → cons_option o [] ≡ option_to_list o
    go None = refl
    go (Some y) = refl

pub filter_map-map : {X Y Z : Type 0} (h : Y → Option Z) (f : X → Y) (xs : List X) → filter_map h (map f xs) ≡ filter_map (λ x. h (f x)) xs
filter_map-map h f [] = refl
filter_map-map h f (x ∷ xs) = ap (cons_option (h (f x))) (filter_map-map h f xs)

pub filter_map-flat_map : {X Y Z : Type 0} (h : Y → Option Z) (f : X → List Y) (xs : List X) → filter_map h (flat_map f xs) ≡ flat_map (λ x. filter_map h (f x)) xs
filter_map-flat_map h f [] = refl
filter_map-flat_map h f (x ∷ xs) = filter_map-append h (f x) (flat_map f xs) ∙ ap (λ ys. filter_map h (f x) ++ ys) (filter_map-flat_map h f xs)

pub flat_map-map : {X Y A : Type 0} (f : Y → List A) (g : X → Y) (xs : List X) → flat_map f (map g xs) ≡ flat_map (λ x. f (g x)) xs
flat_map-map f g [] = refl
flat_map-map f g (x ∷ xs) = ap (λ ys. f (g x) ++ ys) (flat_map-map f g xs)

-- two lists made piece by piece
pub flat_same : {X A : Type 0} (f g : X → List A) → ((x : X) → f x ≡ g x) → (xs : List X) → flat_map f xs ≡ flat_map g xs
flat_same f g same [] = refl
flat_same f g same (x ∷ xs) = let here = same x in let rest = flat_same f g same xs in λ i. here i ++ rest i
