-- Lists to which wires are added at the end.
use Rattle.std.proofs.Common.{◌≡◌, ℕ, ◌<◌, List, [], ◌∷◌, ◌++◌, length, get_or, zero, suc, sym, subst, ◌∙◌, refl, arith, ◌⊎◌, inl, inr}
use Rattle.std.proofs.lemmas.List.{length-append}
use Rattle.words.specs.Members.{In}
use Rattle.links.proofs.Members.{in_right, in_either}
use Rattle.net_links.proofs.Listed.{in_at, place_of}
use Rattle.net_search.specs.Gathering.{Grows}

pub in_more : (xs : List ℕ) (w x : ℕ) → In (xs ++ w ∷ []) x → In xs x ⊎ (x ≡ w)
in_more xs w x h = elim (in_either xs (w ∷ []) x h) [ inl i ↦ inl i | inr j ↦ elim j [ inl e ↦ inr (sym e) | inr q ↦ absurd q ] ]

pub in_last : (xs : List ℕ) (w : ℕ) → In (xs ++ w ∷ []) w
in_last xs w = in_right xs (w ∷ []) w (inl refl)

pub same_front : (xs ys : List ℕ) (k : ℕ) → k < length xs → get_or (xs ++ ys) k 0 ≡ get_or xs k 0
same_front [] ys k h = absurd (omega arith)
same_front (x ∷ xs) ys zero h = refl
same_front (x ∷ xs) ys (suc k) h = same_front xs ys k (omega arith)

pub grows_self : (xs : List ℕ) → Grows xs xs
grows_self xs = record { longer = omega arith; same = λ k h. refl }

pub grows_more : (xs now : List ℕ) (w : ℕ) → now ≡ xs ++ w ∷ [] → Grows xs now
grows_more xs now w e =
    let n = length-append xs (w ∷ []) in
    subst (Grows xs) (sym e) (record { longer = omega arith; same = λ k h. same_front xs (w ∷ []) k h })

pub grows_on : (xs ys zs : List ℕ) → Grows xs ys → Grows ys zs → Grows xs zs
grows_on xs ys zs p q =
    let a = p.longer in let b = q.longer in
    record { longer = omega arith; same = λ k h. q.same k (omega arith) ∙ p.same k h }

pub grows_in : (xs ys : List ℕ) (w : ℕ) → Grows xs ys → In xs w → In ys w
grows_in xs ys w p i =
    let h = place_of xs w i in let b = h.below in let l = p.longer in
    subst (In ys) (p.same h.place h.below ∙ h.is) (in_at ys h.place (omega arith))
