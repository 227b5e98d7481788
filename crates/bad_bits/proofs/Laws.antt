-- The list of bad bits: its names, where it is empty, and that its wires are those of the graph.
use Rattle.std.proofs.Common.{◌≡◌, ◌↔◌, ℕ, ◌<◌, true, List, [], ◌∷◌, map, length, get_or, Some, refl, sym, subst, inl, inr}
use Rattle.std.specs.Prelude.{slice_get}
use Rattle.std.specs.declared.cmp.Ordering.TheVariants.{Less}
use Rattle.std.proofs.lemmas.Option.{slice_get-get_or, slice_get_within}
use Rattle.words.specs.Members.{In}
use Rattle.patterns.specs.Bits.{DeviceBit, Bits}
use Rattle.records.specs.Side.{Domain}
use Rattle.links.proofs.Members.{in_map, of_map}
use Rattle.fabric.specs.Device.{Device}
use Rattle.fabric.specs.InOrder.{IsRising}
use Rattle.fabric.specs.Wires.{Wire, Wide}
use Rattle.fabric.specs.Graph.{Graph}
use Rattle.fabric.specs.GraphOf.{IsGraph}
use Rattle.fabric.specs.MuxBits.{bit_cmp, is_mux_bit, mux_bits}
use Rattle.graph_lists.specs.BitLists.{AreMuxBits}
use Rattle.graph_lists.proofs.BitsOf.{listed_from, listed_to}
use Rattle.upset.specs.Configured.{Configured}
use Rattle.upset.specs.Safe.{IsBad, IsSafe, only}
use Rattle.reports.specs.Reports.{Place, AtWire, InCell, BadPlace}
use Rattle.design_answers.specs.BadBits.{AreBadPlaces, IsBadPlace, IsPlaceOf, at_wire, in_cell}
use Rattle.bad_bits.specs.Numbered.{NumberedPlace, OnWire, OnCell, NumberedBad}
use Rattle.bad_bits.specs.Placed.{ArePlaced, IsNamed, IsPlaced}
use Rattle.bad_bits.specs.Found.{IsPlaceAt, IsFoundBad}
use Rattle.bad_bits.specs.Listed.{AreFound}
use Rattle.bad_bits.proofs.Bounds.{domain_below}

-- the place by the name of its wire
named_place : Graph → NumberedPlace → Place
named_place g (OnWire w) = AtWire (get_or g.wires w (Wide []))
named_place g (OnCell name) = InCell name

named : Graph → NumberedBad → BadPlace
named g n = record { bit = n.bit; first = n.first; first_at = named_place g n.first_at; second = n.second; second_at = named_place g n.second_at }

there : (wires : List Wire) (w : ℕ) → w < length wires → slice_get wires w ≡ Some (get_or wires w (Wide []))
there wires w below = slice_get-get_or wires w (Wide []) below

module _ (device : Device) (k : Configured) (is : IsGraph device k.graph) where
  place_named : (flips : Bits) (d : Domain) (n : NumberedPlace) → IsPlaceAt k flips d n → IsNamed k.graph n (named_place k.graph n)
  unfolding named_place
  place_named flips d (OnWire w) h = (get_or k.graph.wires w (Wide []), (there k.graph.wires w (domain_below device k is w d h.has.1), refl))
  place_named flips d (OnCell name) h = refl

  place_is : (flips : Bits) (d : Domain) (n : NumberedPlace) → IsPlaceAt k flips d n → IsPlaceOf k flips d (named_place k.graph n)
  unfolding named_place
  place_is flips d (OnWire w) h = at_wire w (get_or k.graph.wires w (Wide [])) h (there k.graph.wires w (domain_below device k is w d h.has.1))
  place_is flips d (OnCell name) h = in_cell name h.0 h.1

  bad_named : (n : NumberedBad) → IsFoundBad k n.bit n → IsPlaced k.graph n (named k.graph n)
  unfolding named
  bad_named n h = record {
    bit = refl;
    first = refl;
    first_at = place_named (only n.bit) n.first n.first_at h.first_at;
    second = refl;
    second_at = place_named (only n.bit) n.second n.second_at h.second_at;
  }

  bad_is : (n : NumberedBad) → is_mux_bit k.graph n.bit ≡ true → IsFoundBad k n.bit n → IsBadPlace k (named k.graph n)
  unfolding named
  bad_is n mux h = record {
    mux_bit = mux;
    first = h.first;
    second = h.second;
    first_at = place_is (only n.bit) n.first n.first_at h.first_at;
    second_at = place_is (only n.bit) n.second n.second_at h.second_at;
  }

  all_named : (ns : List NumberedBad) → ((n : NumberedBad) → In ns n → IsFoundBad k n.bit n) → ArePlaced k.graph ns (map (named k.graph) ns)
  all_named [] h = tt
  all_named (n ∷ ns) h = (bad_named n (h n (inl refl)), all_named ns (λ m i. h m (inr i)))

  rising_named : (ns : List NumberedBad) → IsRising (λ a b. bit_cmp a.bit b.bit) ns → IsRising (λ a b. bit_cmp a.bit b.bit) (map (named k.graph) ns)
  unfolding named
  rising_named [] r = tt
  rising_named (n ∷ ns) r = (
    (λ b i. let f = of_map (named k.graph) ns b i in subst (λ (c : BadPlace). bit_cmp n.bit c.bit ≡ Less) f.1.1 (r.0 f.0 f.1.0)),
    rising_named ns r.1,
  )

  pub places_are : (bits : List DeviceBit) (ns : List NumberedBad) → AreMuxBits k.graph bits → AreFound k bits ns → (bad : List BadPlace) × (ArePlaced k.graph ns bad × AreBadPlaces k bad)
  unfolding named
  places_are bits ns mux found = (
    map (named k.graph) ns,
    (
      all_named ns (λ n i. (found.each n i).1),
      record {
        rising = rising_named ns found.rising;
        each = λ b i.
            let f = of_map (named k.graph) ns b i in
            let e = found.each f.0 f.1.0 in
            subst (IsBadPlace k) f.1.1 (bad_is f.0 (listed_to (mux_bits k.graph) f.0.bit ((mux.members f.0.bit).0 e.0)) e.1);
        all = λ bit is_mux is_bad.
            let f = found.all bit ((mux.members bit).1 (listed_from (mux_bits k.graph) bit is_mux)) is_bad in
            (named k.graph f.0, (in_map (named k.graph) ns f.0 f.1.0, f.1.1));
      },
    ),
  )

-- what is placed has a place of the other list
placed_from : (g : Graph) (ns : List NumberedBad) (bad : List BadPlace) → ArePlaced g ns bad → (n : NumberedBad) → In ns n → (b : BadPlace) × (In bad b × IsPlaced g n b)
placed_from g [] [] h n i = absurd i
placed_from g [] (b ∷ bs) h n i = absurd i
placed_from g (m ∷ ms) [] h n i = absurd h
placed_from g (m ∷ ms) (b ∷ bs) h n i = elim i [
  | inl e ↦ (b, (inl refl, subst (λ (x : NumberedBad). IsPlaced g x b) e h.0))
  | inr j ↦ (let r = placed_from g ms bs h.1 n j in (r.0, (inr r.1.0, r.1.1)))
]

is_bad_at : (k : Configured) (b : BadPlace) → IsBadPlace k b → IsBad k (only b.bit)
is_bad_at k b h = (b.first, (b.second, (h.first.has, h.second.has.0, λ e. h.second.has.1 (sym e))))

none_bad : (k : Configured) (bad : List BadPlace) → AreBadPlaces k bad → IsSafe k → bad ≡ []
none_bad k [] are safe = refl
none_bad k (b ∷ bs) are safe = (let at = are.each b (inl refl) in absurd (safe b.bit at.mux_bit (is_bad_at k b at)))

-- the list is empty exactly where the image is safe
pub empty_where_safe : (k : Configured) (bad : List BadPlace) → AreBadPlaces k bad → (bad ≡ []) ↔ IsSafe k
empty_where_safe k bad are = (
  (λ e bit is_mux is_bad. let f = are.all bit is_mux is_bad in subst (λ xs. In xs f.0) e f.1.0),
  none_bad k bad are,
)

no_names : (g : Graph) (ns : List NumberedBad) → ArePlaced g ns [] → ns ≡ []
no_names g [] h = refl
no_names g (n ∷ ns) h = absurd h

no_numbers : (g : Graph) (bad : List BadPlace) → ArePlaced g [] bad → bad ≡ []
no_numbers g [] h = refl
no_numbers g (b ∷ bs) h = absurd h

-- so is that of the bad bits with wires by number
pub found_where_unsafe : (k : Configured) (ns : List NumberedBad) (bad : List BadPlace) → ArePlaced k.graph ns bad → AreBadPlaces k bad → (ns ≡ []) ↔ IsSafe k
found_where_unsafe k ns bad placed are = (
  (λ e. (empty_where_safe k bad are).0 (no_numbers k.graph bad (subst (λ xs. ArePlaced k.graph xs bad) e placed))),
  (λ safe. no_names k.graph ns (subst (λ xs. ArePlaced k.graph ns xs) ((empty_where_safe k bad are).1 safe) placed)),
)

wire_below : (g : Graph) (n : NumberedPlace) (p : Place) (w : ℕ) → IsNamed g n p → n ≡ OnWire w → w < length g.wires
wire_below g n p w h e = (let r = subst (λ m. IsNamed g m p) e h in slice_get_within g.wires w r.0 r.1.0)

-- the wires of places are those of the graph
pub first_below : (g : Graph) (ns : List NumberedBad) (bad : List BadPlace) → ArePlaced g ns bad → (n : NumberedBad) → In ns n → (w : ℕ) → n.first_at ≡ OnWire w → w < length g.wires
first_below g ns bad placed n i w e = (let r = placed_from g ns bad placed n i in wire_below g n.first_at r.0.first_at w r.1.1.first_at e)

pub second_below : (g : Graph) (ns : List NumberedBad) (bad : List BadPlace) → ArePlaced g ns bad → (n : NumberedBad) → In ns n → (w : ℕ) → n.second_at ≡ OnWire w → w < length g.wires
second_below g ns bad placed n i w e = (let r = placed_from g ns bad placed n i in wire_below g n.second_at r.0.second_at w r.1.1.second_at e)
