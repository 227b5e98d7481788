-- What a search came to is cleared.
use Rattle.std.proofs.Common.{◌≡◌, ℕ, ◌+◌, ◌≤◌, ◌<◌, List, [], ◌∷◌, length, get_or, set, replicate, suc, sym, subst, ap, ap₂, ◌∙◌, refl, arith, ◌⊎◌, inl, inr, get_or-set_same, get_or-set_other}
use Rattle.std.proofs.lemmas.Bool.{cases_eq}
use Rattle.std.proofs.lemmas.List.{length-set, length-replicate, get_or-replicate}
use Rattle.words.specs.Members.{In}
use Rattle.net_links.proofs.Listed.{met_at, place_of}

module _ {X : Type 0} (d limit : X) where
  same_lists : (xs ys : List X) → length xs ≡ length ys → ((i : ℕ) → i < length xs → get_or xs i d ≡ get_or ys i d) → xs ≡ ys
  same_lists [] [] e h = refl
  same_lists [] (y ∷ ys) e h = absurd (omega arith)
  same_lists (x ∷ xs) [] e h = absurd (omega arith)
  same_lists (x ∷ xs) (y ∷ ys) e h = ap₂ (λ z zs. z ∷ zs) (h 0 (omega arith)) (same_lists xs ys (omega arith) (λ i l. h (suc i) (omega arith)))

  -- elements are cleared at the first touched wires, so many
  pub record ClearTo (touched : List ℕ) (old : List X) (count : ℕ) (new : List X) : Type 0 where
    pub len : length new ≡ length old
    pub clear : (k : ℕ) → k < count → get_or new (get_or touched k 0) d ≡ limit
    pub either : (x : ℕ) → (get_or new x d ≡ limit) ⊎ (get_or new x d ≡ get_or old x d)

  pub clear_more : (touched : List ℕ) (old : List X) (count w : ℕ) (mid new : List X) → ClearTo touched old count mid → count < length touched → w ≡ get_or touched count w → w < length mid → new ≡ set mid w limit → ClearTo touched old (count + 1) new
  clear_more touched old count w mid new c cl is wl e =
      let at = met_at touched count w cl is in
      let here = get_or-set_same mid w limit d wl in
      subst (ClearTo touched old (count + 1)) (sym e)
      (record {
        len = length-set mid w limit ∙ c.len;
        clear = λ k kl. elim (cases_eq (get_or touched k 0) w) as (λ _. get_or (set mid w limit) (get_or touched k 0) d ≡ limit) [
          | inl q ↦ ap (λ z. get_or (set mid w limit) z d) q ∙ here
          | inr other ↦ get_or-set_other mid w (get_or touched k 0) limit d other ∙ (elim (cases_eq k count) as (λ _. get_or mid (get_or touched k 0) d ≡ limit) [ inl q ↦ absurd (other (ap (λ z. get_or touched z 0) q ∙ at)) | inr n ↦ c.clear k (omega arith) ])
        ];
        either = λ x. elim (cases_eq x w) as (λ _. (get_or (set mid w limit) x d ≡ limit) ⊎ (get_or (set mid w limit) x d ≡ get_or old x d)) [
          | inl q ↦ inl (ap (λ z. get_or (set mid w limit) z d) q ∙ here)
          | inr other ↦ elim (c.either x) [ inl a ↦ inl (get_or-set_other mid w x limit d other ∙ a) | inr a ↦ inr (get_or-set_other mid w x limit d other ∙ a) ]
        ];
      })

  pub clear_begins : (touched : List ℕ) (old : List X) → ClearTo touched old 0 old
  clear_begins touched old = record { len = refl; clear = λ k h. absurd (omega arith); either = λ x. inr refl }

  pub all_clear : (touched : List ℕ) (old new : List X) (count : ℕ) → ClearTo touched old count new → length touched ≤ count → ((w : ℕ) → w < length old → In touched w ⊎ (get_or old w d ≡ limit)) → new ≡ replicate (length old) limit
  all_clear touched old new count c le known =
      let l = length-replicate (length old) limit in
      let n = c.len in
      same_lists new (replicate (length old) limit) (omega arith) (λ x h. (elim (known x (omega arith)) as (λ _. get_or new x d ≡ limit) [
        | inl i ↦ (let p = place_of touched x i in let b = p.below in ap (λ z. get_or new z d) (sym p.is) ∙ c.clear p.place (omega arith))
        | inr out ↦ elim (c.either x) as (λ _. get_or new x d ≡ limit) [ inl a ↦ a | inr a ↦ a ∙ out ]
      ]) ∙ sym (get_or-replicate (length old) x limit d (omega arith)))
