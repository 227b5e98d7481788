-- Name order and a test: those that pass stand in the order that they have among all.
use Rattle.std.proofs.Common.{◌≡◌, ◌≢◌, ℕ, Bool, true, false, cond, inl, inr, List, [], ◌∷◌, refl, sym, ap, ◌∙◌}
use Rattle.std.specs.Prelude.{filter}
use Rattle.std.specs.declared.cmp.Ordering.{Ordering}
use Rattle.std.specs.declared.cmp.Ordering.TheVariants.{Less, Equal, Greater}
use Rattle.std.specs.Ordering.{match_ordering}
use Rattle.words.specs.Members.{In}
use Rattle.words.specs.Ordered.{put_in_order, in_order, IsInOrder}
use Rattle.fabric.specs.Wires.{name_cmp}
use Rattle.cells_laws.proofs.NameOrder.{name_order}

filter_from : {X : Type 0} (test : X → Bool) (xs : List X) (z : X) → In (filter test xs) z → In xs z
filter_from test [] z i = i
filter_from {X} test (x ∷ xs) z i = go (test x) i (filter_from test xs z)
  where
    go : (b : Bool) → In (cond b (x ∷ filter test xs) (filter test xs)) z → (In (filter test xs) z → In xs z) → In (x ∷ xs) z
    go true k ih = elim k [ inl e ↦ inl e | inr j ↦ inr (ih j) ]
    go false k ih = inr (ih k)

module _ {X : Type 0} (name : X → List ℕ) where
  -- an element that comes after none goes first
  put_first : (x : X) (ys : List X) → ((z : X) → In ys z → name_cmp (name x) (name z) ≢ Greater) → x ∷ ys ≡ put_in_order name x ys
  put_first x [] h = refl
  put_first x (y ∷ ys) h = go (name_cmp (name x) (name y)) (h y (inl refl))
    where
      go : (o : Ordering) → o ≢ Greater → x ∷ y ∷ ys ≡ match_ordering o (x ∷ y ∷ ys) (x ∷ y ∷ ys) (y ∷ put_in_order name x ys)
      go Less k = refl
      go Equal k = refl
      go Greater k = absurd (k refl)

  filter_put : (test : X → Bool) (x : X) (ys : List X) → IsInOrder name (put_in_order name x ys)
      → filter test (put_in_order name x ys) ≡ cond (test x) (put_in_order name x (filter test ys)) (filter test ys)
  filter_put test x [] r = refl
  filter_put test x (y ∷ ys) r = go (name_cmp (name x) (name y)) refl r (filter_put test x ys)
    where
      behind : (a b : Bool) → name_cmp (name x) (name y) ≡ Greater → filter test (put_in_order name x ys) ≡ cond a (put_in_order name x (filter test ys)) (filter test ys)
          → cond b (y ∷ filter test (put_in_order name x ys)) (filter test (put_in_order name x ys))
          ≡ cond a (put_in_order name x (cond b (y ∷ filter test ys) (filter test ys))) (cond b (y ∷ filter test ys) (filter test ys))
      behind true true e ih =
          ap (λ zs. y ∷ zs) ih ∙ ap (λ o. match_ordering o (x ∷ y ∷ filter test ys) (x ∷ y ∷ filter test ys) (y ∷ put_in_order name x (filter test ys))) (sym e)
      behind true false e ih = ih
      behind false true e ih = ap (λ zs. y ∷ zs) ih
      behind false false e ih = ih

      go : (o : Ordering) → name_cmp (name x) (name y) ≡ o → IsInOrder name (match_ordering o (x ∷ y ∷ ys) (x ∷ y ∷ ys) (y ∷ put_in_order name x ys))
          → (IsInOrder name (put_in_order name x ys) → filter test (put_in_order name x ys) ≡ cond (test x) (put_in_order name x (filter test ys)) (filter test ys))
          → filter test (match_ordering o (x ∷ y ∷ ys) (x ∷ y ∷ ys) (y ∷ put_in_order name x ys)) ≡ cond (test x) (put_in_order name x (filter test (y ∷ ys))) (filter test (y ∷ ys))
      go Less e k ih = ap (λ zs. cond (test x) zs (filter test (y ∷ ys))) (put_first x (filter test (y ∷ ys)) (λ z i. k.0 z (filter_from test (y ∷ ys) z i)))
      go Equal e k ih = ap (λ zs. cond (test x) zs (filter test (y ∷ ys))) (put_first x (filter test (y ∷ ys)) (λ z i. k.0 z (filter_from test (y ∷ ys) z i)))
      go Greater e k ih = behind (test x) (test y) e (ih k.1)

  pub filtered : (test : X → Bool) (xs : List X) → filter test (in_order name xs) ≡ in_order name (filter test xs)
  filtered test [] = refl
  filtered test (x ∷ xs) = filter_put test x (in_order name xs) (name_order name (x ∷ xs)) ∙ go (test x) (filtered test xs)
    where
      go : (b : Bool) → filter test (in_order name xs) ≡ in_order name (filter test xs)
          → cond b (put_in_order name x (filter test (in_order name xs))) (filter test (in_order name xs)) ≡ in_order name (cond b (x ∷ filter test xs) (filter test xs))
      go true ih = ap (put_in_order name x) ih
      go false ih = ih
