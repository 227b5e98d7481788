-- Lists that are gathered element by element.
use Rattle.std.proofs.Common.{◌≡◌, ℕ, ◌+◌, ◌<◌, ◌≤◌, Bool, true, false, cond, List, [], ◌∷◌, ◌++◌, length, map, filter, take, get_or, Option, Some, option_map, sym, ap, ap₂, subst, ◌∙◌}
use Rattle.std.specs.Prelude.{slice_get}
use Rattle.std.proofs.lemmas.List.{append-nil, length-map, map-append, take_all, take_more}
use Rattle.std.proofs.lemmas.List.Elements.{filter-append}
use Rattle.std.proofs.lemmas.Option.{get_or_from_slice_get, slice_get-get_or, slice_get-map, slice_get_within}
use Rattle.chosen_links.proofs.Standing.{had}

module _ {X : Type 0} (xs : List X) (i : ℕ) (x : X) (there : slice_get xs i ≡ Some x) where
  pub take_one : take (i + 1) xs ≡ take i xs ++ x ∷ []
  take_one = take_more xs i x (slice_get_within xs i x there) ∙ ap (λ z. take i xs ++ z ∷ []) (get_or_from_slice_get xs i x x there)

-- one more element whose image is told
pub map_more : {X Y : Type 0} (f : X → Y) (xs : List X) (i k : ℕ) (ys zs : List Y) (y : Y) → k ≡ i → option_map f (slice_get xs k) ≡ Some y → zs ≡ ys ++ y ∷ []
    → ys ≡ map f (take i xs) → zs ≡ map f (take (i + 1) xs)
map_more f xs i k ys zs y same told made so_far =
    let h = had f (slice_get xs i) y (subst (λ n. option_map f (slice_get xs n) ≡ Some y) same told) in
    made ∙ (ap₂ (λ us z. us ++ z ∷ []) so_far (sym h.is) ∙ sym (ap (map f) (take_one xs i h.element h.there) ∙ map-append f (take i xs) (h.element ∷ [])))

pub map_all : {X Y : Type 0} (f : X → Y) (xs : List X) (i : ℕ) (ys : List Y) → length xs ≤ i → ys ≡ map f (take i xs) → ys ≡ map f xs
map_all f xs i ys past so_far = so_far ∙ ap (map f) (take_all i xs past)

-- one more element, which is kept if it passes
pub kept_more : {X Y : Type 0} (f : X → Y) (test : X → Bool) (xs : List X) (i k : ℕ) (ys zs : List Y) (y : Y) (b : Bool) → k ≡ i
    → option_map f (slice_get xs k) ≡ Some y → option_map test (slice_get xs i) ≡ Some b → zs ≡ cond b (ys ++ y ∷ []) ys
    → ys ≡ map f (filter test (take i xs)) → zs ≡ map f (filter test (take (i + 1) xs))
kept_more {X} {Y} f test xs i k ys zs y b at told tested made so_far =
    let h = had f (slice_get xs i) y (subst (λ n. option_map f (slice_get xs n) ≡ Some y) at told) in
    let t = had test (slice_get xs i) b tested in
    let same : t.element ≡ h.element = (let e = t.there in let d = h.there in cc) in
    made ∙ sym (ap (λ us. map f (filter test us)) (take_one xs i h.element h.there)
    ∙ (ap (map f) (filter-append test (take i xs) (h.element ∷ [])) ∙ (map-append f (filter test (take i xs)) (filter test (h.element ∷ []))
    ∙ (ap (λ us. us ++ map f (filter test (h.element ∷ []))) (sym so_far) ∙ last b h.element (ap test (sym same) ∙ t.is) h.is))))
  where
    last : (c : Bool) (x : X) → test x ≡ c → f x ≡ y → ys ++ map f (filter test (x ∷ [])) ≡ cond c (ys ++ y ∷ []) ys
    last c x e is = ap (λ d. ys ++ map f (cond d (x ∷ []) [])) e ∙ go c
      where
        go : (d : Bool) → ys ++ map f (cond d (x ∷ []) []) ≡ cond d (ys ++ y ∷ []) ys
        go true = ap (λ z. ys ++ z ∷ []) is
        go false = append-nil ys

pub kept_all : {X Y : Type 0} (f : X → Y) (test : X → Bool) (xs : List X) (i : ℕ) (ys : List Y) → length xs ≤ i → ys ≡ map f (filter test (take i xs)) → ys ≡ map f (filter test xs)
kept_all f test xs i ys past so_far = so_far ∙ ap (λ us. map f (filter test us)) (take_all i xs past)

-- what a list of images has at a place
pub image_at : {X : Type 0} (test : X → Bool) (xs : List X) (bs : List Bool) (i : ℕ) → bs ≡ map test xs → i < length xs → option_map test (slice_get xs i) ≡ Some (get_or bs i false)
image_at test xs bs i are below =
    sym (slice_get-map test xs i) ∙ (ap (λ us. slice_get us i) (sym are)
    ∙ slice_get-get_or bs i false (subst (λ n. i < n) (sym (ap (λ us. length us) are ∙ length-map xs test)) below))
