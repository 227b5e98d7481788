-- Bits of muxes and muxes of bits.
use Rattle.std.proofs.Common.{◌≡◌, ℕ, zero, suc, ◌+◌, ◌<◌, ◌≤◌, true, List, [], ◌∷◌, map, length, inl, inr, refl, sym, subst, arith}
use Rattle.std.specs.Prelude.{◌==◌}
use Rattle.std.specs.List.{range_with_len}
use Rattle.std.specs.declared.cmp.Ordering.TheVariants.{Less}
use Rattle.std.specs.Ordering.{nat_cmp}
use Rattle.std.specs.Cmp.{IsTotalOrder, nat_cmp_total, on_total, then_total}
use Rattle.std.proofs.lemmas.Bool.{eq-eqb}
use Rattle.std.proofs.lemmas.Bool.{cases_eq}
use Rattle.words.specs.Members.{In}
use Rattle.patterns.specs.Bits.{DeviceBit, bits_of_list, same_bit}
use Rattle.links.proofs.Members.{in_map, of_map, in_flat_map, of_flat_map}
use Rattle.fabric.specs.InOrder.{InOrderOnce, IsRising}
use Rattle.fabric.specs.Graph.{Graph, GraphArc}
use Rattle.fabric.specs.GraphOf.{arc_cmp}
use Rattle.fabric.specs.Links.{arcs_of_mux}
use Rattle.fabric.specs.MuxBits.{bit_cmp, bits_named, mux_bits}
use Rattle.fabric_laws.proofs.Members.{in_filter_from, in_filter_to, any_from, any_to}
use Rattle.fabric_laws.proofs.SameBits.{same_is, same_refl}
use Rattle.std.proofs.lemmas.List.{map-id}
use Rattle.graph_lists.proofs.Listed.{less_is, rising_map_filter}
use Rattle.graph_lists.specs.ArcLists.{numbers_of, numbers_cmp}
use Rattle.graph_lists.specs.BitLists.{bits_in, muxes_of_bit}

pub bit_total : IsTotalOrder bit_cmp
bit_total = then_total (on_total (λ (b : DeviceBit). b.frame) nat_cmp_total) (on_total (λ (b : DeviceBit). b.bit) nat_cmp_total)

-- the set of a list has its members
pub listed_from : (bits : List DeviceBit) (b : DeviceBit) → bits_of_list bits b ≡ true → In bits b
listed_from bits b h = let found = any_from (same_bit b) bits h in subst (In bits) (sym (same_is b found.0 found.2)) found.1

pub listed_to : (bits : List DeviceBit) (b : DeviceBit) → In bits b → bits_of_list bits b ≡ true
listed_to bits b i = any_to (same_bit b) bits b i (same_refl b)

-- a range has the numbers from its start on
pub range_from : (a n i : ℕ) → In (range_with_len a n) i → (a ≤ i) × (i < a + n)
range_from a zero i h = absurd h
range_from a (suc n) i h = elim h [
  | inl e ↦ (omega arith, omega arith)
  | inr j ↦ let later = range_from (a + 1) n i j in (omega (arith, later.0), omega (arith, later.1))
]

pub range_to : (a n i : ℕ) → a ≤ i → i < a + n → In (range_with_len a n) i
range_to a zero i low high = absurd (omega arith)
range_to a (suc n) i low high = elim (cases_eq a i) [
  | inl e ↦ inl e
  | inr d ↦ inr (range_to (a + 1) n i (omega arith) (omega arith))
]

pub range_rises : (a n : ℕ) → IsRising nat_cmp (range_with_len a n)
range_rises a zero = tt
range_rises a (suc n) = ((λ i h. let later = range_from (a + 1) n i h in less_is a i (omega (arith, later.0))), range_rises (a + 1) n)

-- the muxes of a bit rise
pub muxes_rise : (g : Graph) (b : DeviceBit) → IsRising nat_cmp (muxes_of_bit g b)
muxes_rise g b =
    subst (IsRising nat_cmp) (map-id (muxes_of_bit g b))
    (rising_map_filter nat_cmp nat_cmp (λ m. bits_of_list (bits_in g m) b) (λ (m : ℕ). m) (λ x y here there less. less) (range_with_len 0 (length g.muxes)) (range_rises 0 (length g.muxes)))

module _ (g : Graph) (b : DeviceBit) where
  pub mux_from : (m : ℕ) → In (muxes_of_bit g b) m → (m < length g.muxes) × In (bits_in g m) b
  mux_from m i =
      let found = in_filter_from (λ n. bits_of_list (bits_in g n) b) (range_with_len 0 (length g.muxes)) m i in
      let within = range_from 0 (length g.muxes) m found.0 in
      (omega (arith, within.1), listed_from (bits_in g m) b found.1)

  pub mux_to : (m : ℕ) → m < length g.muxes → In (bits_in g m) b → In (muxes_of_bit g b) m
  mux_to m below i =
      in_filter_to (λ n. bits_of_list (bits_in g n) b) (range_with_len 0 (length g.muxes)) m (range_to 0 (length g.muxes) m (omega arith) (omega arith)) (listed_to (bits_in g m) b i)

  -- a bit of a mux is one of an arc of it
  pub arc_names : (m : ℕ) → In (bits_in g m) b → In (mux_bits g) b
  arc_names m i =
      let found = of_flat_map (λ (a : GraphArc). bits_named a.origin a.arc.bits) (arcs_of_mux g m) b i in
      let arc = in_filter_from (λ (a : GraphArc). a.mux == m) g.arcs found.0 found.1.0 in
      in_flat_map (λ (a : GraphArc). bits_named a.origin a.arc.bits) g.arcs found.0 b arc.0 found.1.1

  pub mux_names : In (mux_bits g) b → (a : GraphArc) × (In g.arcs a × In (bits_in g a.mux) b)
  mux_names i =
      let found = of_flat_map (λ (a : GraphArc). bits_named a.origin a.arc.bits) g.arcs b i in
      let arc = in_filter_to (λ (a : GraphArc). a.mux == found.0.mux) g.arcs found.0 found.1.0 (eq-eqb found.0.mux found.0.mux refl) in
      (found.0, (found.1.0, in_flat_map (λ (a : GraphArc). bits_named a.origin a.arc.bits) (arcs_of_mux g found.0.mux) found.0 b arc found.1.1))

-- the numbers of arcs in order are in order
rising_numbers : (arcs : List GraphArc) → IsRising arc_cmp arcs → IsRising numbers_cmp (map numbers_of arcs)
rising_numbers [] rising = tt
rising_numbers (a ∷ arcs) rising = (
  (λ n i. let found = of_map numbers_of arcs n i in subst (λ m. numbers_cmp (numbers_of a) m ≡ Less) found.1.1 (rising.0 found.0 found.1.0)),
  rising_numbers arcs rising.1,
)

pub numbers_in_order : (named arcs : List GraphArc) → InOrderOnce arc_cmp named arcs → InOrderOnce numbers_cmp (map numbers_of named) (map numbers_of arcs)
numbers_in_order named arcs are = record {
  rising = rising_numbers arcs are.rising;
  members = λ n. (
    (λ i. let found = of_map numbers_of arcs n i in subst (In (map numbers_of named)) found.1.1 (in_map numbers_of named found.0 ((are.members found.0).0 found.1.0))),
    (λ i. let found = of_map numbers_of named n i in subst (In (map numbers_of arcs)) found.1.1 (in_map numbers_of arcs found.0 ((are.members found.0).1 found.1.0))),
  );
}
