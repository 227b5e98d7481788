-- Name order keeps all elements, and puts them in order.
use Rattle.std.proofs.Common.{◌≡◌, ◌≢◌, ℕ, ◌⊎◌, inl, inr, List, [], ◌∷◌, refl, sym, ap, subst, ◌∙◌, ◌↔◌}
use Rattle.std.specs.declared.cmp.Ordering.{Ordering}
use Rattle.std.specs.declared.cmp.Ordering.TheVariants.{Less, Equal, Greater}
use Rattle.std.specs.Ordering.{ordering_reverse, match_ordering}
use Rattle.std.specs.Cmp.Lexicographic.{nat_list_cmp_total}
use Rattle.words.specs.Members.{In}
use Rattle.words.specs.Ordered.{put_in_order, in_order, IsInOrder}
use Rattle.fabric.specs.Wires.{name_cmp}

-- a name that comes after none of two comes not after the later one either
not_after : (a b c : List ℕ) → name_cmp a b ≢ Greater → name_cmp b c ≢ Greater → name_cmp a c ≢ Greater
not_after a b c p q = go (name_cmp a b) (name_cmp b c) refl refl
  where
    -- c stands where b does, after a
    no_less : name_cmp a c ≡ ordering_reverse (name_cmp c a) → name_cmp b a ≡ name_cmp c a → name_cmp a b ≡ Less → name_cmp a c ≡ Greater → ⊥
    no_less turned same e h =
        let one : Greater ≡ ordering_reverse (name_cmp b a) = sym h ∙ turned ∙ ap ordering_reverse (sym same) in
        let two : name_cmp a b ≡ Greater = nat_list_cmp_total.antisymm a b ∙ sym one in
        let no : ⊥ = cc in
        no

    go : (o r : Ordering) → name_cmp a b ≡ o → name_cmp b c ≡ r → name_cmp a c ≢ Greater
    go Greater r e f = λ h. p e
    go Equal r e f = λ h. q (sym (nat_list_cmp_total.congr a b c e) ∙ h)
    go Less Greater e f = λ h. q f
    go Less Less e f = λ h. (let s = nat_list_cmp_total.trans a b c e f in let no : ⊥ = cc in no)
    go Less Equal e f = λ h. absurd (no_less (nat_list_cmp_total.antisymm a c) (nat_list_cmp_total.congr b c a f) e h)

module _ {X : Type 0} (name : X → List ℕ) where
  put_from : (x : X) (ys : List X) (z : X) → In (put_in_order name x ys) z → (x ≡ z) ⊎ In ys z
  put_from x [] z i = i
  put_from x (y ∷ ys) z i = go (name_cmp (name x) (name y)) i (put_from x ys z)
    where
      go : (o : Ordering) → In (match_ordering o (x ∷ y ∷ ys) (x ∷ y ∷ ys) (y ∷ put_in_order name x ys)) z → (In (put_in_order name x ys) z → (x ≡ z) ⊎ In ys z)
          → (x ≡ z) ⊎ In (y ∷ ys) z
      go Less k ih = k
      go Equal k ih = k
      go Greater k ih = elim k [ inl e ↦ inr (inl e) | inr j ↦ elim (ih j) [ inl e ↦ inl e | inr l ↦ inr (inr l) ] ]

  put_to : (x : X) (ys : List X) (z : X) → (x ≡ z) ⊎ In ys z → In (put_in_order name x ys) z
  put_to x [] z i = i
  put_to x (y ∷ ys) z i = go (name_cmp (name x) (name y)) (put_to x ys z)
    where
      go : (o : Ordering) → ((x ≡ z) ⊎ In ys z → In (put_in_order name x ys) z) → In (match_ordering o (x ∷ y ∷ ys) (x ∷ y ∷ ys) (y ∷ put_in_order name x ys)) z
      go Less ih = i
      go Equal ih = i
      go Greater ih = elim i [ inl e ↦ inr (ih (inl e)) | inr j ↦ elim j [ inl e ↦ inl e | inr l ↦ inr (ih (inr l)) ] ]

  pub ordered_from : (xs : List X) (z : X) → In (in_order name xs) z → In xs z
  ordered_from [] z i = i
  ordered_from (x ∷ xs) z i = elim (put_from x (in_order name xs) z i) [ inl e ↦ inl e | inr j ↦ inr (ordered_from xs z j) ]

  pub ordered_to : (xs : List X) (z : X) → In xs z → In (in_order name xs) z
  ordered_to [] z i = i
  ordered_to (x ∷ xs) z i = put_to x (in_order name xs) z (elim i [ inl e ↦ inl e | inr j ↦ inr (ordered_to xs z j) ])

  pub name_order_members : (xs : List X) (x : X) → In (in_order name xs) x ↔ In xs x
  name_order_members xs x = (ordered_from xs x, ordered_to xs x)

  put_ordered : (x : X) (ys : List X) → IsInOrder name ys → IsInOrder name (put_in_order name x ys)
  put_ordered x [] r = ((λ y i. absurd i), tt)
  put_ordered x (y ∷ ys) r = go (name_cmp (name x) (name y)) refl (put_ordered x ys r.1)
    where
      before : name_cmp (name x) (name y) ≢ Greater → (z : X) → In (y ∷ ys) z → name_cmp (name x) (name z) ≢ Greater
      before p z i = elim i [
        | inl e ↦ subst (λ w. name_cmp (name x) (name w) ≢ Greater) e p
        | inr j ↦ not_after (name x) (name y) (name z) p (r.0 z j)
      ]

      behind : name_cmp (name x) (name y) ≡ Greater → (z : X) → (x ≡ z) ⊎ In ys z → name_cmp (name y) (name z) ≢ Greater
      behind p z i = elim i [
        | inl e ↦ subst (λ w. name_cmp (name y) (name w) ≢ Greater) e (λ h. (let s = nat_list_cmp_total.antisymm (name x) (name y) in
            let t : Greater ≡ ordering_reverse Greater = sym p ∙ s ∙ (subst (λ o. ordering_reverse (name_cmp (name y) (name x)) ≡ ordering_reverse o) h refl) in
            let no : ⊥ = cc in
            no))
        | inr j ↦ r.0 z j
      ]

      go : (o : Ordering) → name_cmp (name x) (name y) ≡ o → IsInOrder name (put_in_order name x ys)
          → IsInOrder name (match_ordering o (x ∷ y ∷ ys) (x ∷ y ∷ ys) (y ∷ put_in_order name x ys))
      go Less e ih = (before (λ h. (let no : ⊥ = cc in no)), r)
      go Equal e ih = (before (λ h. (let no : ⊥ = cc in no)), r)
      go Greater e ih = ((λ z i. behind e z (put_from x ys z i)), ih)

  pub name_order : (xs : List X) → IsInOrder name (in_order name xs)
  name_order [] = tt
  name_order (x ∷ xs) = put_ordered x (in_order name xs) (name_order xs)
