-- Records that are put in byte order of their names, from the last to the first.
use Rattle.std.proofs.Common.{◌≡◌, ℕ, suc, ◌+◌, ◌<◌, ◌≤◌, List, [], ◌∷◌, map, refl, sym, ap, ap₂, subst, ◌∙◌, arith}
use Rattle.std.specs.declared.cmp.Ordering.{Ordering}
use Rattle.std.specs.declared.cmp.Ordering.TheVariants.{Less, Equal, Greater}
use Rattle.std.specs.Ordering.{nat_cmp, ordering_then, match_ordering}
use Rattle.std.specs.BTreeMap.{insert_entry}
use Rattle.std.specs.Cmp.Lexicographic.{slice_cmp}
use Rattle.std.proofs.lemmas.Bool.{lt-ltb}
use Rattle.words.specs.Ordered.{put_in_order, in_order}
use Rattle.cell_sites.specs.Ordered.{Entry, AreKeyed, HoldsInOrder}
use denote.Ref.{Bor}

-- the order of names with places
abbrev pub key_cmp : Bor (List ℕ) × ℕ → Bor (List ℕ) × ℕ → Ordering
key_cmp p q = ordering_then (slice_cmp nat_cmp p.0.now q.0.now) (nat_cmp p.1 q.1)

is_less : (i j : ℕ) → i + 1 ≤ j → nat_cmp i j ≡ Less
is_less i j h = let less : i < j = omega arith in rw (lt-ltb i j less) refl

module _ {X : Type 0} (name : X → List ℕ) where
  keyed_below : (i : ℕ) (es : List (Entry X)) → AreKeyed name (i + 1) es → AreKeyed name i es
  keyed_below i [] h = tt
  keyed_below i (e ∷ es) h = (h.0, ((let l = h.1.0 in omega arith), keyed_below i es h.1.1))

  -- the first of a list goes before those with its name
  put_entry : (key : Bor (List ℕ)) (i : ℕ) (x : Bor X) (es : List (Entry X)) → key.now ≡ name x.now → AreKeyed name (i + 1) es
      → map (λ e. e.1.now) (insert_entry key_cmp es (key, i) x) ≡ put_in_order name x.now (map (λ e. e.1.now) es)
  put_entry key i x [] k h = refl
  put_entry key i x (e ∷ es) k h =
      go (slice_cmp nat_cmp key.now e.0.0.now) (nat_cmp i e.0.1) (is_less i e.0.1 h.1.0) (put_entry key i x es k h.1.1)
      ∙ ap (λ o. match_ordering o (x.now ∷ e.1.now ∷ map (λ d. d.1.now) es) (x.now ∷ e.1.now ∷ map (λ d. d.1.now) es) (e.1.now ∷ put_in_order name x.now (map (λ d. d.1.now) es)))
      (ap₂ (λ a b. slice_cmp nat_cmp a b) k h.0)
    where
      go : (o p : Ordering) → p ≡ Less → map (λ d. d.1.now) (insert_entry key_cmp es (key, i) x) ≡ put_in_order name x.now (map (λ d. d.1.now) es)
          → map (λ d. d.1.now) (match_ordering (ordering_then o p) (((key, i), x) ∷ e ∷ es) ((e.0, x) ∷ es) (e ∷ insert_entry key_cmp es (key, i) x))
          ≡ match_ordering o (x.now ∷ e.1.now ∷ map (λ d. d.1.now) es) (x.now ∷ e.1.now ∷ map (λ d. d.1.now) es) (e.1.now ∷ put_in_order name x.now (map (λ d. d.1.now) es))
      go Less p l ih = refl
      go Equal Less l ih = refl
      go Equal Equal l ih = absurd (let no : ⊥ = cc in no)
      go Equal Greater l ih = absurd (let no : ⊥ = cc in no)
      go Greater p l ih = ap (λ ys. e.1.now ∷ ys) ih

  put_keyed : (key : Bor (List ℕ)) (i : ℕ) (x : Bor X) (es : List (Entry X)) → key.now ≡ name x.now → AreKeyed name (i + 1) es → AreKeyed name i (insert_entry key_cmp es (key, i) x)
  put_keyed key i x [] k h = (k, ((let l : i ≤ i = omega arith in l), tt))
  put_keyed key i x (e ∷ es) k h = go (slice_cmp nat_cmp key.now e.0.0.now) (nat_cmp i e.0.1) (is_less i e.0.1 h.1.0) (put_keyed key i x es k h.1.1)
    where
      here : i ≤ i
      here = omega arith

      later : i ≤ e.0.1
      later = let l = h.1.0 in omega arith

      go : (o p : Ordering) → p ≡ Less → AreKeyed name i (insert_entry key_cmp es (key, i) x)
          → AreKeyed name i (match_ordering (ordering_then o p) (((key, i), x) ∷ e ∷ es) ((e.0, x) ∷ es) (e ∷ insert_entry key_cmp es (key, i) x))
      go Less p l ih = (k, (here, (h.0, (later, keyed_below i es h.1.1))))
      go Equal Less l ih = (k, (here, (h.0, (later, keyed_below i es h.1.1))))
      go Equal Equal l ih = absurd (let no : ⊥ = cc in no)
      go Equal Greater l ih = absurd (let no : ⊥ = cc in no)
      go Greater p l ih = (h.0, (later, ih))

  pub put_holds : (key : Bor (List ℕ)) (i : ℕ) (x : Bor X) (old new : List (Entry X)) (items : List X) → new ≡ insert_entry key_cmp old (key, i) x → key.now ≡ name x.now
      → HoldsInOrder name (i + 1) items old → HoldsInOrder name i (x.now ∷ items) new
  put_holds key i x old new items e k held = record {
    ordered = ap (map (λ d. d.1.now)) e ∙ (put_entry key i x old k held.keyed ∙ ap (put_in_order name x.now) held.ordered);
    keyed = subst (AreKeyed name i) (sym e) (put_keyed key i x old k held.keyed);
  }
