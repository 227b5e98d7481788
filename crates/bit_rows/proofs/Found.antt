-- What a search among bits finds.
use Rattle.std.proofs.Common.{◌≡◌, ℕ, ◌<◌, ◌≤◌, List, [], ◌∷◌, length, get_or, Some, inl, inr, refl, sym, ap, subst, ◌∙◌, arith}
use Rattle.std.specs.Prelude.{slice_get}
use Rattle.std.specs.Ordering.{ordering_index}
use Rattle.std.specs.declared.cmp.Ordering.{Ordering}
use Rattle.std.specs.declared.cmp.Ordering.TheVariants.{Less, Equal, Greater}
use Rattle.std.specs.List.Sorted.{IsNonDecreasingBy, IsPartitionPoint}
use Rattle.std.proofs.lemmas.Bool.{cases_lt}
use Rattle.std.proofs.lemmas.Option.{slice_get-get_or}
use Rattle.words.specs.Members.{In}
use Rattle.links.proofs.Members.{in_flat_map}
use Rattle.patterns.specs.Bits.{DeviceBit, bits_of_list}
use Rattle.fabric.specs.MuxBits.{bit_cmp}
use Rattle.fabric_laws.proofs.Numbered.{get_in, number_there}
use Rattle.graph_lists.proofs.Listed.{place_from}
use Rattle.graph_lists.proofs.BitsOf.{bit_total, listed_from}
use Rattle.bit_rows.specs.MuxBits.{muxes_with}
use Rattle.bit_rows.specs.Numbered.{AreInverse}
use Rattle.bit_rows.proofs.Numbering.{bit_ties, bit_tied}
use Rattle.bit_rows.proofs.Rising.{get_below, or_is, rising_at}
use Rattle.bit_rows.proofs.Inverse.{get_map}

module _ (rows : List (List DeviceBit)) (bits : List DeviceBit) (muxes : List (List ℕ)) (are : AreInverse rows bits muxes) (b : DeviceBit) where
  -- the muxes at the place of a bit are those that have it
  pub found : (place : ℕ) → place < length bits → ((d : DeviceBit) → bit_cmp (get_or bits place d) b ≡ Equal) → slice_get muxes place ≡ Some (muxes_with rows b)
  found place below equal =
      let here = get_or bits place b in
      let same : b ≡ here = bit_ties here b (equal b) in
      ap (λ m. slice_get m place) are.by_bit ∙ get_map (muxes_with rows) bits place here (slice_get-get_or bits place b below) ∙ ap (λ z. Some (muxes_with rows z)) (sym same)

  most : (o : Ordering) → ordering_index o ≤ 2
  most Less = omega arith
  most Equal = omega arith
  most Greater = omega arith

  -- a bit that comes later doesn't compare as less
  index_rises : (p q : DeviceBit) → bit_cmp p q ≡ Less → ordering_index (bit_cmp p b) ≤ ordering_index (bit_cmp q b)
  index_rises p q less = go (bit_cmp q b) refl
    where
      go : (o : Ordering) → bit_cmp q b ≡ o → ordering_index (bit_cmp p b) ≤ ordering_index o
      go Less e = let first : bit_cmp p b ≡ Less = bit_total.trans p q b less e in omega (arith, ap ordering_index first)
      go Equal e = let first : bit_cmp p b ≡ Less = subst (λ w. bit_cmp p w ≡ Less) (sym (bit_ties q b e)) less in omega (arith, ap ordering_index first)
      go Greater e = most (bit_cmp p b)

  bits_searchable : IsNonDecreasingBy (λ y. ordering_index (bit_cmp y b)) bits
  bits_searchable i j d order below = elim (cases_lt i j) [
    | inl l ↦ index_rises (get_or bits i d) (get_or bits j d) (rising_at bit_cmp bits i j d are.bits.rising l below)
    | inr g ↦ (let same : i ≡ j = omega arith in omega (arith, ap (λ k. ordering_index (bit_cmp (get_or bits k d) b)) same))
  ]

  -- a bit that isn't found is none of them
  no_bit : (i : ℕ) → (IsNonDecreasingBy (λ y. ordering_index (bit_cmp y b)) bits → IsPartitionPoint (λ y. bit_cmp y b ≡ Less) (λ y. bit_cmp y b ≡ Greater) bits i) → In bits b → ⊥
  no_bit i split h =
      let parts = split bits_searchable in
      let at = number_there bits b h in
      let k = at.0 in
      let here : get_or bits k b ≡ b = or_is bits k b b at.1 in
      let within = get_below bits k b at.1 in
      let tied = bit_tied b in
      elim (cases_lt k i) [
        | inl l ↦ (let less : bit_cmp b b ≡ Less = subst (λ w. bit_cmp w b ≡ Less) here (parts.0 k b (omega arith) l) in let no : ⊥ = cc in no)
        | inr g ↦ (let more : bit_cmp b b ≡ Greater = subst (λ w. bit_cmp w b ≡ Greater) here (parts.1 k b g within) in let no : ⊥ = cc in no)
      ]

  nothing : (xs : List ℕ) → ((x : ℕ) → In xs x → ⊥) → [] ≡ xs
  nothing [] none = refl
  nothing (x ∷ xs) none = absurd (none x (inl refl))

  -- and no mux has it
  pub not_found : (i : ℕ) → (IsNonDecreasingBy (λ y. ordering_index (bit_cmp y b)) bits → IsPartitionPoint (λ y. bit_cmp y b ≡ Less) (λ y. bit_cmp y b ≡ Greater) bits i) → [] ≡ muxes_with rows b
  not_found i split =
      nothing (muxes_with rows b) (λ m h.
      let at = place_from (λ (row : List DeviceBit). bits_of_list row b) rows m h in
      let has = listed_from at.0 b at.1.1 in
      no_bit i split ((are.bits.members b).1 (in_flat_map (λ (row : List DeviceBit). row) rows at.0 b (get_in rows m at.0 at.1.0) has)))
