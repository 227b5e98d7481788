-- Names that are apart, tested pair by pair.
use Rattle.std.proofs.Common.{◌≡◌, ℕ, zero, suc, Bool, true, false, not, ◌&&◌, inl, inr, List, [], ◌∷◌, Some, refl, sym, ap, subst, ◌∙◌}
use Rattle.std.specs.Prelude.{slice_get}
use Rattle.std.specs.List.{list_all}
use Rattle.std.specs.Str.{bytes_eq}
use Rattle.std.proofs.lemmas.Bool.{false≢true, and_parts, and_from}
use Rattle.std.proofs.lemmas.Option.{same_Some}
use Rattle.std.proofs.lemmas.Slice.Eq.{bytes_eq-Decides}
use Rattle.words.specs.Members.{In}
use Rattle.fabric.specs.Graph.{Graph}
use Rattle.cells.specs.Standing.{TilesApart, KindsApart}
use Rattle.fabric_laws.proofs.Members.{all_from}
use Rattle.fabric_laws.proofs.Numbered.{get_in}

-- no element is the same as one behind it
abbrev pub apart_by : {X : Type 0} → (X → X → Bool) → List X → Bool
apart_by same [] = true
apart_by same (x ∷ xs) = list_all (λ y. not (same x y)) xs && apart_by same xs

not_both : (b : Bool) → not b ≡ true → b ≡ true → ⊥
not_both true h e = false≢true h
not_both false h e = false≢true e

module _ {X : Type 0} (same : X → X → Bool) (turn : (x y : X) → same x y ≡ true → same y x ≡ true) where
  -- one behind another isn't the same
  behind : (x : X) (xs : List X) → apart_by same (x ∷ xs) ≡ true → (y : X) → In xs y → same x y ≡ true → ⊥
  behind x xs h y i = not_both (same x y) (all_from (λ y. not (same x y)) xs (and_parts (list_all (λ y. not (same x y)) xs) (apart_by same xs) h).0 y i)

  rest : (x : X) (xs : List X) → apart_by same (x ∷ xs) ≡ true → apart_by same xs ≡ true
  rest x xs h = (and_parts (list_all (λ y. not (same x y)) xs) (apart_by same xs) h).1

  elements_apart : (xs : List X) → apart_by same xs ≡ true → (k l : X) → In xs k → In xs l → same k l ≡ true → k ≡ l
  elements_apart [] h k l i j e = absurd i
  elements_apart (x ∷ xs) h k l i j e = elim i [
    | inl a ↦ elim j [ inl b ↦ sym a ∙ b | inr b ↦ absurd (behind x xs h l b (subst (λ z. same z l ≡ true) (sym a) e)) ]
    | inr a ↦ elim j [ inl b ↦ absurd (behind x xs h k a (turn k x (subst (λ z. same k z ≡ true) (sym b) e))) | inr b ↦ elements_apart xs (rest x xs h) k l a b e ]
  ]

  places_apart : (xs : List X) → apart_by same xs ≡ true → (m n : ℕ) (t u : X) → slice_get xs m ≡ Some t → slice_get xs n ≡ Some u → same t u ≡ true → m ≡ n
  places_apart [] h m n t u i j e = absurd (let no : ⊥ = cc in no)
  places_apart (x ∷ xs) h zero zero t u i j e = refl
  places_apart (x ∷ xs) h zero (suc n) t u i j e = absurd (behind x xs h u (get_in xs n u j) (subst (λ z. same z u ≡ true) (sym (same_Some x t i)) e))
  places_apart (x ∷ xs) h (suc m) zero t u i j e = absurd (behind x xs h t (get_in xs m t i) (turn t x (subst (λ z. same t z ≡ true) (sym (same_Some x u j)) e)))
  places_apart (x ∷ xs) h (suc m) (suc n) t u i j e = ap suc (places_apart xs (rest x xs h) m n t u i j e)

same_name : {X : Type 0} (name : X → List ℕ) (x y : X) → bytes_eq (name x) (name y) ≡ true → bytes_eq (name y) (name x) ≡ true
same_name name x y h = (bytes_eq-Decides (name y) (name x)).1 (sym ((bytes_eq-Decides (name x) (name y)).0 h))

pub tiles_apart : (g : Graph) → apart_by (λ t u. bytes_eq t.name u.name) g.grid.tiles ≡ true → TilesApart g
tiles_apart g h m n t u i j e = places_apart (λ t u. bytes_eq t.name u.name) (same_name (λ t. t.name)) g.grid.tiles h m n t u i j ((bytes_eq-Decides t.name u.name).1 e)

pub kinds_apart : {K : Type 0} (type_of name_of : K → List ℕ) (kinds : List K) → apart_by (λ k l. bytes_eq (type_of k) (type_of l) && bytes_eq (name_of k) (name_of l)) kinds ≡ true
    → KindsApart type_of name_of kinds
kinds_apart {K} type_of name_of kinds h k l i j e f =
    elements_apart (λ k l. bytes_eq (type_of k) (type_of l) && bytes_eq (name_of k) (name_of l)) turn kinds h k l i j
    (and_from (bytes_eq (type_of k) (type_of l)) (bytes_eq (name_of k) (name_of l)) ((bytes_eq-Decides (type_of k) (type_of l)).1 e) ((bytes_eq-Decides (name_of k) (name_of l)).1 f))
  where
    turn : (x y : K) → bytes_eq (type_of x) (type_of y) && bytes_eq (name_of x) (name_of y) ≡ true → bytes_eq (type_of y) (type_of x) && bytes_eq (name_of y) (name_of x) ≡ true
    turn x y h =
        let parts = and_parts (bytes_eq (type_of x) (type_of y)) (bytes_eq (name_of x) (name_of y)) h in
        and_from (bytes_eq (type_of y) (type_of x)) (bytes_eq (name_of y) (name_of x)) (same_name type_of x y parts.0) (same_name name_of x y parts.1)
