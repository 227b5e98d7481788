-- What lines name, one by one, and marks.
use Rattle.std.proofs.Common.{◌≡◌, ℕ, ◌+◌, ◌<◌, ◌≤◌, ◌↔◌, Bool, true, false, ◌||◌, List, [], ◌∷◌, ◌++◌, length, filter_map, flat_map, take, get_or, Option, Some, None, refl, sym, ap, subst, ◌∙◌, inl, inr, eq-eqb}
use Rattle.std.specs.Prelude.{slice_get, option_to_list, ◌==◌}
use Rattle.std.proofs.lemmas.Bool.{false≢true, eqb-true, or_cases}
use Rattle.std.proofs.lemmas.List.{append-nil, append_assoc, take_all, take_more}
use Rattle.std.proofs.lemmas.List.Elements.{filter_map-append}
use Rattle.std.proofs.lemmas.Grind.{flat_map-append}
use Rattle.std.specs.List.{cons_option}
use Rattle.words.specs.Members.{In}
use Rattle.links.proofs.Members.{in_either, in_left, in_right}

-- one more element of which something may be made
made_one : {X Y : Type 0} (f : X → Option Y) (x : X) → filter_map f (x ∷ []) ≡ option_to_list (f x)
made_one {Y = Y} f x = go (f x) refl
  where
    go : (o : Option Y) → f x ≡ o → filter_map f (x ∷ []) ≡ option_to_list o
    go None e = ap (λ p. cons_option p []) e
    go (Some y) e = ap (λ p. cons_option p []) e

pub made_more : {X Y : Type 0} (f : X → Option Y) (xs : List X) (i : ℕ) (x : X) (front ys zs : List Y) (o : Option Y) → i < length xs → x ≡ get_or xs i x → o ≡ f x
    → ys ≡ front ++ filter_map f (take i xs) → zs ≡ ys ++ option_to_list o → zs ≡ front ++ filter_map f (take (i + 1) xs)
made_more f xs i x front ys zs o within is told so_far made =
    made ∙ (ap (λ us. us ++ option_to_list o) so_far ∙ (append_assoc front (filter_map f (take i xs)) (option_to_list o) ∙ ap (λ us. front ++ us)
    (ap (λ us. filter_map f (take i xs) ++ us) (ap option_to_list told ∙ sym (made_one f x))
    ∙ sym (ap (filter_map f) (take_more xs i x within ∙ ap (λ z. take i xs ++ z ∷ []) (sym is)) ∙ filter_map-append f (take i xs) (x ∷ [])))))

pub made_all : {X Y : Type 0} (f : X → Option Y) (xs : List X) (i : ℕ) (front ys : List Y) → length xs ≤ i → ys ≡ front ++ filter_map f (take i xs) → ys ≡ front ++ filter_map f xs
made_all f xs i front ys past so_far = so_far ∙ ap (λ us. front ++ filter_map f us) (take_all i xs past)

-- one more element of which a list is made
pub joined_more : {X Y : Type 0} (f : X → List Y) (xs : List X) (i : ℕ) (x : X) (ys zs : List Y) → i < length xs → x ≡ get_or xs i x
    → ys ≡ flat_map f (take i xs) → zs ≡ ys ++ f x → zs ≡ flat_map f (take (i + 1) xs)
joined_more f xs i x ys zs within is so_far made =
    made ∙ (ap (λ us. us ++ f x) so_far ∙ (ap (λ us. flat_map f (take i xs) ++ us) (sym (append-nil (f x)))
    ∙ sym (ap (flat_map f) (take_more xs i x within ∙ ap (λ z. take i xs ++ z ∷ []) (sym is)) ∙ flat_map-append f (take i xs) (x ∷ []))))

pub joined_all : {X Y : Type 0} (f : X → List Y) (xs : List X) (i : ℕ) (ys : List Y) → length xs ≤ i → ys ≡ flat_map f (take i xs) → ys ≡ flat_map f xs
joined_all f xs i ys past so_far = so_far ∙ ap (flat_map f) (take_all i xs past)

-- one more number is marked
pub mark_more : (xs : List ℕ) (i x k : ℕ) (old new : Bool) → i < length xs → x ≡ get_or xs i x → new ≡ (old || (x == k))
    → (old ≡ true) ↔ In (take i xs) k → (new ≡ true) ↔ In (take (i + 1) xs) k
mark_more xs i x k old new within is made so_far =
    subst (λ ys. (new ≡ true) ↔ In ys k) (sym (take_more xs i x within ∙ ap (λ z. take i xs ++ z ∷ []) (sym is))) (
      (λ t. elim (or_cases old (x == k) (sym made ∙ t)) [
        | inl e ↦ in_left (take i xs) (x ∷ []) k (so_far.0 e)
        | inr e ↦ in_right (take i xs) (x ∷ []) k (inl (eqb-true x k e))
      ]),
      (λ j. made ∙ elim (in_either (take i xs) (x ∷ []) k j) [
        | inl l ↦ either_left old (x == k) (so_far.1 l)
        | inr l ↦ elim l [ inl e ↦ either_right old (x == k) (eq-eqb x k e) | inr n ↦ absurd n ]
      ]),
    )
  where
    either_left : (a b : Bool) → a ≡ true → (a || b) ≡ true
    either_left true b e = refl
    either_left false b e = absurd (false≢true e)

    either_right : (a b : Bool) → b ≡ true → (a || b) ≡ true
    either_right true b e = refl
    either_right false b e = e
