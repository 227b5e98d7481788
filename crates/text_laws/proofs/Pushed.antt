-- A list in which nothing stands twice, with one more element at its end.
use Rattle.std.proofs.Common.{◌≡◌, ℕ, false, inl, inr, List, [], ◌∷◌, ◌++◌, map, sym, subst, ◌∙◌}
use Rattle.std.specs.List.{list_any}
use Rattle.std.specs.Str.{bytes_eq}
use Rattle.std.proofs.lemmas.Bool.{false≢true}
use Rattle.std.proofs.lemmas.Slice.Eq.{bytes_eq-Decides}
use Rattle.words.specs.Members.{In}
use Rattle.words.specs.Twice.{HasNoneTwice}
use Rattle.links.proofs.Members.{of_map}
use Rattle.fabric_laws.proofs.Members.{any_to}
use Rattle.formed_laws.proofs.Twice.{joined_twice}

-- one more element that is new
pub pushed_twice : {X : Type 0} (xs : List X) (x : X) → HasNoneTwice xs → (In xs x → ⊥) → HasNoneTwice (xs ++ x ∷ [])
pushed_twice xs x h new = joined_twice xs (x ∷ []) h ((λ i. i), tt) (λ z i j. elim j [ inl e ↦ new (subst (In xs) (sym e) i) | inr k ↦ k ])

-- a name that none of some has
pub not_had : {X : Type 0} (f : X → List ℕ) (xs : List X) (name : List ℕ) → list_any (λ x. bytes_eq (f x) name) xs ≡ false → In (map f xs) name → ⊥
not_had f xs name h i =
    let r = of_map f xs name i in false≢true (sym h ∙ any_to (λ x. bytes_eq (f x) name) xs r.0 r.1.0 ((bytes_eq-Decides (f r.0) name).1 r.1.1))
