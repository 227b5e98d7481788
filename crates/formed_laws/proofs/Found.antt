-- Where nothing is found.
use Rattle.std.proofs.Common.{◌≡◌, Bool, true, false, not, inl, inr, List, [], ◌∷◌, find, Some, None, cond, refl, ap, subst, sym, ◌∙◌}
use Rattle.std.proofs.lemmas.Bool.{false≢true}
use Rattle.words.specs.Members.{In}

-- no element passes
pub found_none : {X : Type 0} (t : X → Bool) (xs : List X) → find t xs ≡ None → (x : X) → In xs x → t x ≡ true → ⊥
found_none t [] h x i p = i
found_none t (y ∷ ys) h x i p = go (t y) refl h (λ k. found_none t ys k x)
  where
    go : (b : Bool) → t y ≡ b → cond b (Some y) (find t ys) ≡ None → (find t ys ≡ None → In ys x → t x ≡ true → ⊥) → ⊥
    go true e k ih = let no : ⊥ = cc in no
    go false e k ih = elim i [ inl s ↦ false≢true (sym e ∙ subst (λ z. t z ≡ true) (sym s) p) | inr j ↦ ih k j p ]

-- each element passes, where none is found that doesn't
pub all_pass : {X : Type 0} (t : X → Bool) (xs : List X) → find (λ x. not (t x)) xs ≡ None → (x : X) → In xs x → t x ≡ true
all_pass t xs h x i = go (t x) refl
  where
    go : (b : Bool) → t x ≡ b → t x ≡ true
    go true e = e
    go false e = absurd (found_none (λ z. not (t z)) xs h x i (ap not e))
