-- The walk back along counting drivers.
use Rattle.std.proofs.Common.{◌≡◌, ℕ, ◌+◌, ◌<◌, ◌↔◌, Option, Some, None, List, [], ◌∷◌, length, get_or, sym, ap, subst, ◌∙◌, inl, inr, arith}
use Rattle.std.specs.Prelude.{nat_eq, option_to_list, MatchOption}
use Rattle.std.proofs.lemmas.Bool.{cases_eq}
use Rattle.std.proofs.lemmas.List.{get_or_append_left}
use Rattle.words.specs.Members.{In}
use Rattle.links.specs.Links.{Routing, Counting, IsClean, here, onto, Upstream}
use Rattle.net_links.proofs.Listed.{in_at, place_of}
use Rattle.indexmap.specs.IndexSet.{insert_all}
use Rattle.wire_links.proofs.Finding.{all_added, all_from, all_have, all_keep}
use Rattle.upset_effect.specs.Found.{Finds}

pub finds_first : (r : Routing) (first : List ℕ) → Finds r first first 0
finds_first r first = record { begun = λ x i. i; behind = λ w i. (w, (i, here)); spread = λ k l. absurd (omega arith) }

module _ (r : Routing) (first found : List ℕ) (at x : ℕ) (clean : IsClean r) (f : Finds r first found at) (below : at < length found) (is : x ≡ get_or found at 0) where
  -- the driver of the next wire is among those that are put in
  pub finds_row : (row new : List ℕ) → ((v : ℕ) → In row v ↔ Counting r v x) → new ≡ insert_all nat_eq found row → Finds r first new (at + 1)
  finds_row row new row_is new_is =
      let added = all_added found row in
      let same : (k : ℕ) → k < length found → get_or new k 0 ≡ get_or found k 0 = λ k l. ap (λ (zs : List ℕ). get_or zs k 0) (new_is ∙ added.1) ∙ get_or_append_left found added.0 0 k l in
      let into : (v : ℕ) → In (insert_all nat_eq found row) v → In new v = λ v i. subst (λ (zs : List ℕ). In zs v) (sym new_is) i in
      let own = f.behind x (subst (In found) (sym is) (in_at found at below)) in
      record {
        begun = λ y i. into y (all_keep found row y (f.begun y i));
        behind = λ w i. elim (all_from found row w (subst (λ (zs : List ℕ). In zs w) new_is i)) [
          | inl old ↦ f.behind w old
          | inr fresh ↦ (own.0, (own.1.0, onto own.1.1 ((row_is w).0 fresh)))
        ];
        spread = λ k l v counting. elim (cases_eq k at) [
          | inl e ↦ into v (all_have found row v ((row_is v).1 (subst (λ z. Counting r v z) (ap (λ z. get_or new z 0) e ∙ same at below ∙ sym is) counting)))
          | inr d ↦ into v (all_keep found row v (f.spread k (omega arith) v (subst (λ z. Counting r v z) (same k (omega arith)) counting)))
        ];
      }

  pub finds_more : (d : Option ℕ) (new : List ℕ) → MatchOption d ((v : ℕ) → Counting r v x → ⊥) (λ v. Counting r v x) → new ≡ insert_all nat_eq found (option_to_list d) → Finds r first new (at + 1)
  finds_more None new none made = finds_row [] new (λ v. ((λ i. absurd i), (λ c. none v c))) made
  finds_more (Some u) new counts made =
      finds_row (u ∷ []) new (λ v. (
        (λ i. elim i [ inl e ↦ subst (λ z. Counting r z x) e counts | inr n ↦ absurd n ]),
        (λ c. inl (clean.one_driver x u v counts c)),
      )) made

-- when all are spread from, all wires behind the first ones are found
pub found_all : (r : Routing) (first found : List ℕ) → Finds r first found (length found) → (w : ℕ) → In found w ↔ ((x : ℕ) × (In first x × Upstream r x w))
found_all r first found f w = ((λ i. f.behind w i), (λ h. go h.0 h.1.0 h.1.1))
  where
    go : (x : ℕ) → In first x → {v : ℕ} → Upstream r x v → In found v
    go x i here = f.begun x i
    go x i {v} (onto {b} reach counting) = let p = place_of found b (go x i reach) in f.spread p.place p.below v (subst (λ z. Counting r v z) (sym p.is) counting)

-- the wires that are put in first are those that are given
pub given : (wires : List ℕ) (x : ℕ) → In (insert_all nat_eq [] wires) x ↔ In wires x
given wires x = ((λ i. elim (all_from [] wires x i) [ inl n ↦ absurd n | inr j ↦ j ]), (λ i. all_have [] wires x i))

pub behind_given : (r : Routing) (wires first found : List ℕ) → first ≡ insert_all nat_eq [] wires → Finds r first found (length found) → (w : ℕ) → In found w ↔ ((x : ℕ) × (In wires x × Upstream r x w))
behind_given r wires first found is f w = (
  (λ i. let h = (found_all r first found f w).0 i in (h.0, ((given wires h.0).0 (subst (λ (zs : List ℕ). In zs h.0) is h.1.0), h.1.1))),
  (λ h. (found_all r first found f w).1 (h.0, (subst (λ (zs : List ℕ). In zs h.0) (sym is) ((given wires h.0).1 h.1.0), h.1.1))),
)
