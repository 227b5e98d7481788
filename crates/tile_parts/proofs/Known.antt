-- Names that count in a tile have slots, and a slot has the wire of its name.
use Rattle.std.proofs.Common.{◌≡◌, ℕ, true, List, [], ◌∷◌, ◌++◌, inl, inr, ◌⊎◌, map, Option, None, Some, option_map, option_and_then, refl, sym, ap, subst, ◌∙◌, bytes_eq}
use Rattle.std.specs.Prelude.{slice_get, if◌then◌else◌}
use Rattle.std.specs.Option.{is_some}
use Rattle.std.proofs.lemmas.Slice.Eq.{bytes_eq-Decides}
use Rattle.std.proofs.lemmas.Option.{slice_get-map}
use Rattle.words.specs.Members.{In}
use Rattle.links.proofs.Members.{in_left, in_right}
use Rattle.fabric_laws.proofs.Numbered.{at_position, position_there, get_in}
use Rattle.name_numbers.specs.Numbers.{number_of, with_name, each_once}
use Rattle.tile_parts.specs.Slots.{wire_at}

same_name : (a b : List ℕ) → bytes_eq a b ≡ true → a ≡ b
same_name a b e = (bytes_eq-Decides a b).0 e

-- what has a number is there
numbered_in : (names : List (List ℕ)) (name : List ℕ) (i : ℕ) → number_of names name ≡ Some i → slice_get names i ≡ Some name
numbered_in names name i h =
    let at = at_position (bytes_eq name) names i h in
    at.1.0 ∙ ap (λ n. Some n) (sym (same_name name at.0 at.1.1))

kept_of : (names : List (List ℕ)) (name n : List ℕ) (o : Option ℕ) → In names n → In (if is_some o then names else names ++ name ∷ []) n
kept_of names name n (Some i) h = h
kept_of names name n None h = in_left names (name ∷ []) n h

new_of : (names : List (List ℕ)) (name : List ℕ) (o : Option ℕ) → number_of names name ≡ o → In (if is_some o then names else names ++ name ∷ []) name
new_of names name (Some i) e = get_in names i name (numbered_in names name i e)
new_of names name None e = in_right names (name ∷ []) name (inl refl)

-- no name is lost
pub in_once : (names more : List (List ℕ)) (n : List ℕ) → In names n ⊎ In more n → In (each_once names more) n
in_once names [] n h = elim h [ inl i ↦ i | inr j ↦ absurd j ]
in_once names (name ∷ more) n h = in_once (with_name names name) more n (elim h [
  | inl i ↦ inl (kept_of names name n (number_of names name) i)
  | inr j ↦ elim j [
    | inl e ↦ inl (subst (In (with_name names name)) e (new_of names name (number_of names name) refl))
    | inr k ↦ inr k
  ]
])

module _ (wire : List ℕ → Option ℕ) (names : List (List ℕ)) where
  at_slot : (name : List ℕ) (i : ℕ) → number_of names name ≡ Some i → wire_at (map wire names) (Some i) ≡ wire name
  at_slot name i h =
      ap (option_and_then (λ w. w)) (slice_get-map wire names i ∙ ap (option_map wire) (numbered_in names name i h))

  of_slot : (name : List ℕ) (o : Option ℕ) → number_of names name ≡ o → (i : ℕ) → o ≡ Some i → wire_at (map wire names) o ≡ wire name
  of_slot name o h i e = ap (wire_at (map wire names)) e ∙ at_slot name i (h ∙ e)

  -- a name that counts
  pub counted : (name : List ℕ) → In names name → wire_at (map wire names) (number_of names name) ≡ wire name
  counted name there =
      let i = position_there (bytes_eq name) names name there ((bytes_eq-Decides name name).1 refl) in
      of_slot name (number_of names name) refl i.0 i.1

  -- a name without a wire, whether it counts or not
  of_none : (name : List ℕ) → wire name ≡ None → (o : Option ℕ) → number_of names name ≡ o → wire_at (map wire names) o ≡ None
  of_none name h None e = refl
  of_none name h (Some i) e = at_slot name i e ∙ h

  pub wireless : (name : List ℕ) → wire name ≡ None → wire_at (map wire names) (number_of names name) ≡ None
  wireless name h = of_none name h (number_of names name) refl
