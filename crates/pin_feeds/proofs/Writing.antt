-- Parts that are written at the wires of their outputs.
use Rattle.std.proofs.Common.{◌≡◌, ℕ, zero, suc, ◌+◌, ◌<◌, ◌≤◌, List, [], ◌∷◌, length, get_or, drop, replicate, Option, None, Some, inl, inr, refl, sym, ap, subst, ◌∙◌, add-one, arith}
use Rattle.std.specs.Prelude.{slice_get, slice_set}
use Rattle.std.proofs.lemmas.List.{drop_more, drop_all, length-replicate, length-set, get_or-set_same, get_or-set_other, get_or-replicate}
use Rattle.words.specs.Members.{In}
use Rattle.links.proofs.Members.{same_number}
use Rattle.circuit.specs.Parts.{Source}
use Rattle.pin_feeds.specs.Outputs.{AreOutputs, outputs_from}

-- ---- one part more

pub outputs_more : (all : List Source) (i : ℕ) (d : Source) (parts more whole : List (Option ℕ)) → i < length all
    → outputs_from parts i (drop i all) ≡ whole → more ≡ slice_set parts (get_or all i d).out (Some i) → outputs_from more (i + 1) (drop (i + 1) all) ≡ whole
outputs_more all i d parts more whole below are is =
    ap (λ n. outputs_from more n (drop (i + 1) all)) (add-one i)
    ∙ (ap (λ ps. outputs_from ps (suc i) (drop (i + 1) all)) is ∙ (sym (ap (outputs_from parts i) (drop_more all i d below)) ∙ are))

pub outputs_all : (all : List Source) (i : ℕ) (parts whole : List (Option ℕ)) → length all ≤ i → outputs_from parts i (drop i all) ≡ whole → parts ≡ whole
outputs_all all i parts whole over are = sym (ap (outputs_from parts i) (drop_all i all over)) ∙ are

-- ---- what is written

pub length_outputs : (parts : List (Option ℕ)) (n : ℕ) (ss : List Source) → length (outputs_from parts n ss) ≡ length parts
length_outputs parts n [] = refl
length_outputs parts n (s ∷ ss) = length_outputs (slice_set parts s.out (Some n)) (suc n) ss ∙ length-set parts s.out (Some n)

some_of : (k n : ℕ) → Some n ≡ Some k → n ≡ k
some_of k n h = cc

no_some : (k : ℕ) → None ≡ Some k → ⊥
no_some k h = (let no : ⊥ = cc in no)

some_none : (k : ℕ) → Some k ≡ None → ⊥
some_none k h = (let no : ⊥ = cc in no)

-- what is there is below the length
pub there_below : (parts : List (Option ℕ)) (o k : ℕ) → get_or parts o None ≡ Some k → o < length parts
there_below [] o k h = absurd (no_some k h)
there_below (p ∷ ps) zero k h = omega arith
there_below (p ∷ ps) (suc o) k h = (let rest = there_below ps o k h in omega arith)

abbrev Known : List Source → List (Option ℕ) → Type 0
Known all parts = (o k : ℕ) → get_or parts o None ≡ Some k → (s : Source) × ((slice_get all k ≡ Some s) × (s.out ≡ o))

known_with : (all : List Source) (parts : List (Option ℕ)) (n : ℕ) (s : Source) → slice_get all n ≡ Some s → Known all parts → Known all (slice_set parts s.out (Some n))
known_with all parts n s at known o k h = elim (same_number o s.out) [
  | inl e ↦ (
      let long : o < length parts = subst (λ l. o < l) (length-set parts s.out (Some n)) (there_below (slice_set parts s.out (Some n)) o k h) in
      let same : get_or (slice_set parts s.out (Some n)) s.out None ≡ Some n = get_or-set_same parts s.out (Some n) None (subst (λ x. x < length parts) e long) in
      let number : n ≡ k = some_of k n (sym same ∙ subst (λ x. get_or (slice_set parts s.out (Some n)) x None ≡ Some k) e h) in
      (s, (subst (λ x. slice_get all x ≡ Some s) number at, sym e))
      )
  | inr other ↦ known o k (sym (get_or-set_other parts s.out o (Some n) None other) ∙ h)
]

known_all : (all : List Source) (parts : List (Option ℕ)) (n : ℕ) (ss : List Source) → ((k : ℕ) (s : Source) → slice_get ss k ≡ Some s → slice_get all (n + k) ≡ Some s) → Known all parts → Known all (outputs_from parts n ss)
known_all all parts n [] at known = known
known_all all parts n (s ∷ ss) at known =
    known_all all (slice_set parts s.out (Some n)) (suc n) ss (λ k t h. let e : n + suc k ≡ suc n + k = omega arith in subst (λ m. slice_get all m ≡ Some t) e (at (suc k) t h))
    (known_with all parts n s (let e : n + 0 ≡ n = omega arith in subst (λ m. slice_get all m ≡ Some s) e (at 0 s refl)) known)

-- what is there stays there
kept_with : (parts : List (Option ℕ)) (n out o : ℕ) → (get_or parts o None ≡ None → ⊥) → o < length parts → get_or (slice_set parts out (Some n)) o None ≡ None → ⊥
kept_with parts n out o there below h = elim (same_number o out) [
  | inl e ↦ some_none n (sym (get_or-set_same parts out (Some n) None (subst (λ x. x < length parts) e below)) ∙ subst (λ x. get_or (slice_set parts out (Some n)) x None ≡ None) e h)
  | inr other ↦ there (sym (get_or-set_other parts out o (Some n) None other) ∙ h)
]

kept_all : (parts : List (Option ℕ)) (n : ℕ) (ss : List Source) (o : ℕ) → (get_or parts o None ≡ None → ⊥) → o < length parts → get_or (outputs_from parts n ss) o None ≡ None → ⊥
kept_all parts n [] o there below h = there h
kept_all parts n (s ∷ ss) o there below h =
    kept_all (slice_set parts s.out (Some n)) (suc n) ss o (kept_with parts n s.out o there below) (subst (λ l. o < l) (sym (length-set parts s.out (Some n))) below) h

-- each part is written
written : (parts : List (Option ℕ)) (n : ℕ) (ss : List Source) (s : Source) → In ss s → s.out < length parts → get_or (outputs_from parts n ss) s.out None ≡ None → ⊥
written parts n [] s i below h = i
written parts n (t ∷ ss) s i below h = elim i [
  | inl e ↦ (
      let long : t.out < length parts = subst (λ (x : Source). x.out < length parts) (sym e) below in
      let set_long : t.out < length (slice_set parts t.out (Some n)) = subst (λ l. t.out < l) (sym (length-set parts t.out (Some n))) long in
      kept_all (slice_set parts t.out (Some n)) (suc n) ss t.out (λ none. some_none n (sym (get_or-set_same parts t.out (Some n) None long) ∙ none)) set_long
      (subst (λ (x : Source). get_or (outputs_from (slice_set parts t.out (Some n)) (suc n) ss) x.out None ≡ None) (sym e) h)
      )
  | inr j ↦ written (slice_set parts t.out (Some n)) (suc n) ss s j (subst (λ l. s.out < l) (sym (length-set parts t.out (Some n))) below) h
]

none_yet : (count o k : ℕ) → get_or (replicate count None) o None ≡ Some k → ⊥
none_yet count o k h =
    let below : o < length (replicate {A = Option ℕ} count None) = there_below (replicate count None) o k h in
    let long : o < count = subst (λ l. o < l) (length-replicate count None) below in
    no_some k (sym (get_or-replicate count o None None long) ∙ h)

-- all parts, written to a list in which nothing stands
pub outputs_made : (all : List Source) (whole : List (Option ℕ)) (count : ℕ) → whole ≡ outputs_from (replicate count None) 0 all → AreOutputs all whole
outputs_made all whole count is = subst (AreOutputs all) (sym is) (record {
  known = known_all all (replicate count None) 0 all (λ k s h. let e : k ≡ 0 + k = omega arith in subst (λ m. slice_get all m ≡ Some s) e h) (λ o k h. absurd (none_yet count o k h));
  none = λ s i below. written (replicate count None) 0 all s i (subst (λ l. s.out < l) (length_outputs (replicate count None) 0 all) below);
})

pub long_made : (all : List Source) (whole : List (Option ℕ)) (count : ℕ) → whole ≡ outputs_from (replicate count None) 0 all → length whole ≡ count
long_made all whole count is = ap (λ ps. length ps) is ∙ (length_outputs (replicate count None) 0 all ∙ length-replicate count None)
