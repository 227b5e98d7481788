-- Lists in which some elements are left out, and what the others stand for.
use Rattle.std.proofs.Common.{◌≡◌, ℕ, ◌+◌, List, [], ◌∷◌, ◌++◌, inl, inr, map, filter_map, flat_map, Option, None, Some, refl, sym, ap, ◌∙◌}
use Rattle.std.specs.List.{enumerate_from}
use Rattle.words.specs.Members.{In}

module _ {E A B : Type 0} (F : E → Option A) (G : A → Option B) (f : E → Option B) where
  of_first : (e : E) (es : List E) → ((a : A) → F e ≡ Some a → (b : B) × ((G a ≡ Some b) × (f e ≡ Some b))) → (F e ≡ None → f e ≡ None) → map G (filter_map F es) ≡ map (λ b. Some b) (filter_map f es)
      → (o : Option A) → F e ≡ o → map G (filter_map F (e ∷ es)) ≡ map (λ b. Some b) (filter_map f (e ∷ es))
  of_first e es there gone rest None h = rw (h, gone h) rest
  of_first e es there gone rest (Some a) h =
      let s = there a h in
      rw (h, s.1.1) (ap (λ o. o ∷ map G (filter_map F es)) s.1.0 ∙ ap (λ zs. Some s.0 ∷ zs) rest)

  -- so the lists stand for each other
  pub left_stand : (es : List E) → ((e : E) → In es e → (a : A) → F e ≡ Some a → (b : B) × ((G a ≡ Some b) × (f e ≡ Some b))) → ((e : E) → In es e → F e ≡ None → f e ≡ None)
      → map G (filter_map F es) ≡ map (λ b. Some b) (filter_map f es)
  left_stand [] there gone = refl
  left_stand (e ∷ es) there gone = of_first e es (there e (inl refl)) (gone e (inl refl)) (left_stand es (λ x i. there x (inr i)) (λ x i. gone x (inr i))) (F e) refl

-- numbers that aren't asked for
unnumbered_first : {X B : Type 0} (f : X → Option B) (n : ℕ) (x : X) (xs : List X) → filter_map (λ e. f e.1) (enumerate_from (n + 1) xs) ≡ filter_map f xs → (o : Option B) → f x ≡ o
    → filter_map (λ e. f e.1) ((n, x) ∷ enumerate_from (n + 1) xs) ≡ filter_map f (x ∷ xs)
unnumbered_first f n x xs rest None e = rw e rest
unnumbered_first f n x xs rest (Some b) e = rw e (ap (λ zs. b ∷ zs) rest)

pub unnumbered : {X B : Type 0} (f : X → Option B) (n : ℕ) (xs : List X) → filter_map (λ e. f e.1) (enumerate_from n xs) ≡ filter_map f xs
unnumbered f n [] = refl
unnumbered f n (x ∷ xs) = unnumbered_first f n x xs (unnumbered f (n + 1) xs) (f x) refl

-- elements of lists that are put together
pub map_both : {A B : Type 0} (f : A → B) (xs ys : List A) → map f (xs ++ ys) ≡ map f xs ++ map f ys
map_both f [] ys = refl
map_both f (x ∷ xs) ys = ap (λ zs. f x ∷ zs) (map_both f xs ys)

-- where the list of each element stands for another, so do all put together
module _ {E A B : Type 0} (H : E → List A) (G : A → Option B) (h : E → List B) where
  pub all_stand : (es : List E) → ((e : E) → In es e → map G (H e) ≡ map (λ b. Some b) (h e)) → map G (flat_map H es) ≡ map (λ b. Some b) (flat_map h es)
  all_stand [] each = refl
  all_stand (e ∷ es) each =
      map_both G (H e) (flat_map H es)
      ∙ (ap (λ zs. zs ++ map G (flat_map H es)) (each e (inl refl)) ∙ (ap (λ zs. map (λ b. Some b) (h e) ++ zs) (all_stand es (λ x i. each x (inr i))) ∙ sym (map_both (λ b. Some b) (h e) (flat_map h es))))
