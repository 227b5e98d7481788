-- Lists with one element more at their end, in which nothing is named twice.
use Rattle.std.proofs.Common.{◌≡◌, inl, inr, List, [], ◌∷◌, ◌++◌, map, refl, sym, ap, subst, ◌∙◌}
use Rattle.std.proofs.lemmas.List.{map-append}
use Rattle.words.specs.Members.{In}
use Rattle.words.specs.Twice.{HasNoneTwice}
use Rattle.links.proofs.Members.{in_left, in_right, in_either}
use Rattle.formed_laws.proofs.Twice.{joined_twice}

-- a list with one element more, which isn't in it
pub one_more : {X : Type 0} (xs : List X) (x : X) → HasNoneTwice xs → (In xs x → ⊥) → HasNoneTwice (xs ++ x ∷ [])
one_more xs x h new = joined_twice xs (x ∷ []) h ((λ i. i), tt) (λ z i j. elim j [ inl e ↦ new (subst (In xs) (sym e) i) | inr none ↦ none ])

module _ {X N : Type 0} (name : X → N) where
  pub named_more : (xs : List X) (x : X) → HasNoneTwice (map name xs) → (In (map name xs) (name x) → ⊥) → HasNoneTwice (map name (xs ++ x ∷ []))
  named_more xs x h new = subst HasNoneTwice (sym (map-append name xs (x ∷ []))) (one_more (map name xs) (name x) h new)

  -- another last element of the same name
  pub same_names : (xs : List X) (x y : X) → name x ≡ name y → map name (xs ++ x ∷ []) ≡ map name (xs ++ y ∷ [])
  same_names xs x y e = map-append name xs (x ∷ []) ∙ ap (λ n. map name xs ++ n ∷ []) e ∙ sym (map-append name xs (y ∷ []))

module _ {X : Type 0} (Good : X → Type 0) where
  abbrev pub AllGood : List X → Type 0
  AllGood xs = (x : X) → In xs x → Good x

  pub good_more : (xs : List X) (x : X) → AllGood xs → Good x → AllGood (xs ++ x ∷ [])
  good_more xs x h g y i = elim (in_either xs (x ∷ []) y i) [ inl j ↦ h y j | inr j ↦ elim j [ inl e ↦ subst Good e g | inr none ↦ absurd none ] ]

  pub good_front : (xs : List X) (x : X) → AllGood (xs ++ x ∷ []) → AllGood xs
  good_front xs x h y i = h y (in_left xs (x ∷ []) y i)

  pub good_last : (xs : List X) (x : X) → AllGood (xs ++ x ∷ []) → Good x
  good_last xs x h = h x (in_right xs (x ∷ []) x (inl refl))
