-- Facts on options, and on the first fault of a list whose elements are judged alone.
use Rattle.std.proofs.Common.{◌≡◌, Bool, true, false, ◌⊎◌, inl, inr, List, [], ◌∷◌, ◌++◌, Option, Some, None, refl, subst, sym, ap}
use Rattle.std.specs.Option.{option_map, option_and_then, option_map_or}
use Rattle.std.proofs.lemmas.Bool.{false≢true}
use Rattle.words.specs.Members.{In}
use Rattle.words.specs.Firsts.{or_else, first_fault_after}

pub some_is : {X : Type 0} (o : Option X) → (o ≡ None → ⊥) → (x : X) × (o ≡ Some x)
some_is None h = absurd (h refl)
some_is (Some x) h = (x, refl)

-- what was mapped
pub mapped_from : {X Y : Type 0} (f : X → Y) (o : Option X) (y : Y) → option_map f o ≡ Some y → (x : X) × ((o ≡ Some x) × (f x ≡ y))
mapped_from f None y h = absurd (let no : ⊥ = cc in no)
mapped_from f (Some x) y h = (x, (refl, let e : f x ≡ y = cc in e))

pub mapped_to : {X Y : Type 0} (f : X → Y) (o : Option X) (x : X) → o ≡ Some x → option_map f o ≡ Some (f x)
mapped_to f o x e = ap (option_map f) e

pub then_from : {X Y : Type 0} (f : X → Option Y) (o : Option X) (y : Y) → option_and_then f o ≡ Some y → (x : X) × ((o ≡ Some x) × (f x ≡ Some y))
then_from f None y h = absurd (let no : ⊥ = cc in no)
then_from f (Some x) y h = (x, (refl, h))

pub then_to : {X Y : Type 0} (f : X → Option Y) (o : Option X) (x : X) (y : Y) → o ≡ Some x → f x ≡ Some y → option_and_then f o ≡ Some y
then_to f o x y e h = subst (λ p. option_and_then f p ≡ Some y) (sym e) h

-- a test of what is there
pub tested_from : {X : Type 0} (t : X → Bool) (o : Option X) → option_map_or t o false ≡ true → (x : X) × ((o ≡ Some x) × (t x ≡ true))
tested_from t None h = absurd (false≢true h)
tested_from t (Some x) h = (x, (refl, h))

pub tested_to : {X : Type 0} (t : X → Bool) (o : Option X) (x : X) → o ≡ Some x → t x ≡ true → option_map_or t o false ≡ true
tested_to t o x e h = subst (λ p. option_map_or t p false ≡ true) (sym e) h

pub or_none : {E : Type 0} (a b : Option E) → or_else a b ≡ None → (a ≡ None) × (b ≡ None)
or_none None b h = (refl, h)
or_none (Some e) b h = absurd (let no : ⊥ = cc in no)

pub none_or : {E : Type 0} (a b : Option E) → a ≡ None → b ≡ None → or_else a b ≡ None
none_or a b p q = subst (λ o. or_else o b ≡ None) (sym p) q

pub or_some : {E : Type 0} (a b : Option E) (e : E) → or_else a b ≡ Some e → (a ≡ Some e) ⊎ (b ≡ Some e)
or_some None b e h = inr h
or_some (Some x) b e h = inl h

module _ {X E : Type 0} (f : X → Option E) where
  pub none_each : (before xs : List X) → first_fault_after (λ b x. f x) before xs ≡ None → (x : X) → In xs x → f x ≡ None
  none_each before [] h x i = absurd i
  none_each before (y ∷ ys) h x i = let parts = or_none (f y) (first_fault_after (λ b x. f x) (before ++ y ∷ []) ys) h in elim i [
    | inl e ↦ subst (λ z. f z ≡ None) e parts.0
    | inr j ↦ none_each (before ++ y ∷ []) ys parts.1 x j
  ]

  pub each_none : (before xs : List X) → ((x : X) → In xs x → f x ≡ None) → first_fault_after (λ b x. f x) before xs ≡ None
  each_none before [] h = refl
  each_none before (y ∷ ys) h = none_or (f y) (first_fault_after (λ b x. f x) (before ++ y ∷ []) ys) (h y (inl refl)) (each_none (before ++ y ∷ []) ys (λ x i. h x (inr i)))

  pub some_one : (before xs : List X) (e : E) → first_fault_after (λ b x. f x) before xs ≡ Some e → (x : X) × (In xs x × (f x ≡ Some e))
  some_one before [] e h = absurd (let no : ⊥ = cc in no)
  some_one before (y ∷ ys) e h = elim (or_some (f y) (first_fault_after (λ b x. f x) (before ++ y ∷ []) ys) e h) [
    | inl k ↦ (y, (inl refl, k))
    | inr k ↦ (let r = some_one (before ++ y ∷ []) ys e k in (r.0, (inr r.1.0, r.1.1)))
  ]
