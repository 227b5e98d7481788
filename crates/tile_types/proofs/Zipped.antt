-- Lists whose elements go together place by place.
use Rattle.std.proofs.Common.{List, [], ◌∷◌, ◌++◌, ◌<◌, ◌+◌, ℕ, length, map, take, get_or, sym, subst}
use Rattle.std.specs.List.{AllZip}
use Rattle.std.proofs.lemmas.List.{map_more}

-- one pair more
zip_push : {A B : Type 0} (R : A → B → Type 0) (xs : List A) (ys : List B) (x : A) (y : B) → AllZip R xs ys → R x y → AllZip R (xs ++ x ∷ []) (ys ++ y ∷ [])
zip_push R [] [] x y all one = (one, tt)
zip_push R [] (z ∷ zs) x y all one = absurd all
zip_push R (z ∷ zs) [] x y all one = absurd all
zip_push R (a ∷ as') (b ∷ bs) x y all one = (all.0, zip_push R as' bs x y all.1 one)

-- one element more of a list that is seen through a function
pub zip_more : {X A B : Type 0} (R : A → B → Type 0) (f : X → A) (xs : List X) (ys : List B) (i : ℕ) (d : X) (y : B) → i < length xs
    → AllZip R (map f (take i xs)) ys → R (f (get_or xs i d)) y → AllZip R (map f (take (i + 1) xs)) (ys ++ y ∷ [])
zip_more R f xs ys i d y below all one = subst (λ zs. AllZip R zs (ys ++ y ∷ [])) (sym (map_more f xs i d below)) (zip_push R (map f (take i xs)) ys (f (get_or xs i d)) y all one)
