-- Elements of lists that pass a test, and what stands before them.
use Rattle.std.proofs.Common.{◌≡◌, ◌≢◌, Bool, true, false, List, [], ◌∷◌, ◌++◌, Some, ◌⊎◌, inl, inr, cond, ◌||◌, ◌&&◌, refl, sym, ap, subst, ◌∙◌}
use Rattle.std.specs.Prelude.{find}
use Rattle.std.specs.List.{list_any}
use Rattle.words.specs.Members.{In}

-- the first element that passes a test, with what stands before and behind it
pub record Found {X : Type 0} (t : X → Bool) (xs : List X) : Type 0 where
  pub front : List X
  pub element : X
  pub rest : List X
  pub whole : xs ≡ front ++ element ∷ rest
  pub passes : t element ≡ true
  pub found : find t xs ≡ Some element

pub first_found : {X : Type 0} (t : X → Bool) (xs : List X) → list_any t xs ≡ true → Found t xs
first_found t [] h = absurd (let no : ⊥ = cc in no)
first_found t (x ∷ xs) h = go (t x) refl (first_found t xs)
  where
    go : (b : Bool) → t x ≡ b → (list_any t xs ≡ true → Found t xs) → Found t (x ∷ xs)
    go true e ih = record { front = []; element = x; rest = xs; whole = refl; passes = e; found = ap (λ b. cond b (Some x) (find t xs)) e }
    go false e ih =
        let later = ih (ap (λ b. b || list_any t xs) (sym e) ∙ h) in
        record {
          front = x ∷ later.front;
          element = later.element;
          rest = later.rest;
          whole = ap (λ ys. x ∷ ys) later.whole;
          passes = later.passes;
          found = ap (λ b. cond b (Some x) (find t xs)) e ∙ later.found;
        }

-- of two different elements of a list one stands before the other
pub one_before : {X : Type 0} (f g : List X) (x y : X) (r s : List X) → f ++ x ∷ r ≡ g ++ y ∷ s → x ≢ y → In g x ⊎ In f y
one_before [] [] x y r s e ne = absurd (ne (let same : x ≡ y = cc in same))
one_before [] (z ∷ g) x y r s e ne = inl (inl (let same : z ≡ x = cc in same))
one_before (z ∷ f) [] x y r s e ne = inr (inl (let same : z ≡ y = cc in same))
one_before (z ∷ f) (w ∷ g) x y r s e ne =
    let tails : f ++ x ∷ r ≡ g ++ y ∷ s = cc in
    elim (one_before f g x y r s tails ne) [ inl i ↦ inl (inr i) | inr i ↦ inr (inr i) ]

-- no element passes a test that none passes
pub none_passes : {X : Type 0} (t : X → Bool) (xs : List X) → list_any t xs ≡ false → (x : X) → In xs x → t x ≡ false
none_passes {X} t [] h x i = absurd i
none_passes {X} t (y ∷ ys) h x i = go (t y) refl (none_passes t ys)
  where
    go : (b : Bool) → t y ≡ b → (list_any t ys ≡ false → (x : X) → In ys x → t x ≡ false) → t x ≡ false
    go true e ih = absurd (let wrong : true ≡ false = ap (λ b. b || list_any t ys) (sym e) ∙ h in let no : ⊥ = cc in no)
    go false e ih = elim i [ inl s ↦ subst (λ z. t z ≡ false) s e | inr j ↦ ih (ap (λ b. b || list_any t ys) (sym e) ∙ h) x j ]

-- the second of two tests fails where both do and the first passes
pub other_fails : (a b : Bool) → (a && b) ≡ false → a ≡ true → b ≡ false
other_fails true b h e = h
other_fails false b h e = absurd (let no : ⊥ = cc in no)
