-- What a search among arcs in arc order finds.
use Rattle.std.proofs.Common.{◌≡◌, ℕ, ◌<◌, ◌≤◌, List, length, get_or, Some, inl, inr, refl, ap, subst, ◌∙◌, arith}
use Rattle.std.specs.Prelude.{slice_get}
use Rattle.std.specs.Ordering.{nat_cmp, ordering_index, ordering_then}
use Rattle.std.specs.Cmp.{IsTotalOrder, nat_cmp_total, on_total, then_total}
use Rattle.std.specs.FinMap.{nat_cmp-IsAntisymmetric}
use Rattle.std.specs.declared.cmp.Ordering.{Ordering}
use Rattle.std.specs.declared.cmp.Ordering.TheVariants.{Less, Equal, Greater}
use Rattle.std.specs.List.Sorted.{IsNonDecreasingBy, IsPartitionPoint}
use Rattle.std.proofs.lemmas.Bool.{cases_lt}
use Rattle.std.proofs.lemmas.Option.{slice_get-get_or}
use Rattle.words.specs.Members.{In}
use Rattle.fabric.specs.InOrder.{IsRising}
use Rattle.fabric_laws.proofs.Numbered.{number_there}
use Rattle.fabric_laws.proofs.Orders.{first_ties, second_ties}
use Rattle.graph_lists.specs.ArcLists.{ArcNumbers, numbers_cmp}
use Rattle.arc_rows.proofs.Tied.{numbers_tied}
use Rattle.bit_rows.proofs.Rising.{get_below, or_is, rising_at}

pub numbers_total : IsTotalOrder numbers_cmp
numbers_total = then_total (on_total (λ a. a.sink) nat_cmp_total) (then_total (on_total (λ a. a.source) nat_cmp_total)
    (then_total (on_total (λ a. a.mux) nat_cmp_total) (on_total (λ a. a.place) nat_cmp_total)))

-- arcs by numbers that tie are one
numbers_ties : (a b : ArcNumbers) → numbers_cmp a b ≡ Equal → a ≡ b
numbers_ties a b h =
    let muxes = ordering_then (nat_cmp a.mux b.mux) (nat_cmp a.place b.place) in
    let sources = ordering_then (nat_cmp a.source b.source) muxes in
    let behind_sink = second_ties (nat_cmp a.sink b.sink) sources h in
    let behind_source = second_ties (nat_cmp a.source b.source) muxes behind_sink in
    let sink = nat_cmp-IsAntisymmetric a.sink b.sink (first_ties (nat_cmp a.sink b.sink) sources h) in
    let source = nat_cmp-IsAntisymmetric a.source b.source (first_ties (nat_cmp a.source b.source) muxes behind_sink) in
    let mux = nat_cmp-IsAntisymmetric a.mux b.mux (first_ties (nat_cmp a.mux b.mux) (nat_cmp a.place b.place) behind_source) in
    let place = nat_cmp-IsAntisymmetric a.place b.place (second_ties (nat_cmp a.mux b.mux) (nat_cmp a.place b.place) behind_source) in
    λ i. record { mux = mux i; place = place i; source = source i; sink = sink i }

module _ (arcs : List ArcNumbers) (key : ArcNumbers) where
  -- what compares as equal is the arc
  pub found : (number : ℕ) → number < length arcs → ((d : ArcNumbers) → numbers_cmp (get_or arcs number d) key ≡ Equal) → slice_get arcs number ≡ Some key
  found number below equal =
      let same : get_or arcs number key ≡ key = numbers_ties (get_or arcs number key) key (equal key) in
      slice_get-get_or arcs number key below ∙ ap (λ a. Some a) same

  most : (o : Ordering) → ordering_index o ≤ 2
  most Less = omega arith
  most Equal = omega arith
  most Greater = omega arith

  -- an arc that comes later doesn't compare as less
  index_rises : (p q : ArcNumbers) → numbers_cmp p q ≡ Less → ordering_index (numbers_cmp p key) ≤ ordering_index (numbers_cmp q key)
  index_rises p q less = go (numbers_cmp q key) refl
    where
      go : (o : Ordering) → numbers_cmp q key ≡ o → ordering_index (numbers_cmp p key) ≤ ordering_index o
      go Less e = let first : numbers_cmp p key ≡ Less = numbers_total.trans p q key less e in omega (arith, ap ordering_index first)
      go Equal e = let first : numbers_cmp p key ≡ Less = subst (λ w. numbers_cmp p w ≡ Less) (numbers_ties q key e) less in omega (arith, ap ordering_index first)
      go Greater e = most (numbers_cmp p key)

  searchable : IsRising numbers_cmp arcs → IsNonDecreasingBy (λ y. ordering_index (numbers_cmp y key)) arcs
  searchable rising i j d order below = elim (cases_lt i j) [
    | inl l ↦ index_rises (get_or arcs i d) (get_or arcs j d) (rising_at numbers_cmp arcs i j d rising l below)
    | inr g ↦ (let same : i ≡ j = omega arith in omega (arith, ap (λ k. ordering_index (numbers_cmp (get_or arcs k d) key)) same))
  ]

  -- an arc that isn't found is none of them
  pub not_found : (i : ℕ) → (IsNonDecreasingBy (λ y. ordering_index (numbers_cmp y key)) arcs → IsPartitionPoint (λ y. numbers_cmp y key ≡ Less) (λ y. numbers_cmp y key ≡ Greater) arcs i)
      → IsRising numbers_cmp arcs → In arcs key → ⊥
  not_found i split rising h =
      let parts = split (searchable rising) in
      let at = number_there arcs key h in
      let k = at.0 in
      let here : get_or arcs k key ≡ key = or_is arcs k key key at.1 in
      let within = get_below arcs k key at.1 in
      let tied = numbers_tied key in
      elim (cases_lt k i) [
        | inl l ↦ (let less : numbers_cmp key key ≡ Less = subst (λ w. numbers_cmp w key ≡ Less) here (parts.0 k key (omega arith) l) in let no : ⊥ = cc in no)
        | inr g ↦ (let more : numbers_cmp key key ≡ Greater = subst (λ w. numbers_cmp w key ≡ Greater) here (parts.1 k key g within) in let no : ⊥ = cc in no)
      ]
