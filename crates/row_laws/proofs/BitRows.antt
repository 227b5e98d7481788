-- Rows of the bits of muxes.
use Rattle.std.proofs.Common.{◌≡◌, ℕ, ◌<◌, List, [], length, get_or, arith}
use Rattle.std.specs.Prelude.{flat_map}
use Rattle.std.specs.Ordering.{nat_cmp}
use Rattle.std.specs.Cmp.{nat_cmp_total}
use Rattle.words.specs.Members.{In}
use Rattle.links.proofs.Members.{in_flat_map, of_flat_map}
use Rattle.patterns.specs.Bits.{DeviceBit, bits_of_list}
use Rattle.fabric.specs.InOrder.{InOrderOnce}
use Rattle.fabric.specs.Graph.{Graph, GraphArc}
use Rattle.fabric.specs.MuxBits.{bit_cmp, mux_bits}
use Rattle.fabric_laws.proofs.Numbered.{get_in, number_there}
use Rattle.fabric_laws.proofs.Sorted.{determined}
use Rattle.graph_lists.specs.BitLists.{AreMuxBits, muxes_of_bit}
use Rattle.graph_lists.proofs.Listed.{place_from, place_to, places_rise}
use Rattle.graph_lists.proofs.BitsOf.{arc_names, listed_from, listed_to, mux_from, mux_names, mux_to, muxes_rise}
use Rattle.bit_rows.specs.MuxBits.{muxes_with}
use Rattle.std.proofs.lemmas.Option.{slice_get-get_or}
use Rattle.bit_rows.proofs.Rising.{get_below}
use Rattle.row_laws.specs.BitRows.{AreBitRows}

module _ (g : Graph) (rows : List (List DeviceBit)) (are : AreBitRows g rows) where
  -- a mux with a bit in its row has the bit
  with_to : (b : DeviceBit) (m : ℕ) → In (muxes_with rows b) m → In (muxes_of_bit g b) m
  with_to b m i =
      let found = place_from (λ (row : List DeviceBit). bits_of_list row b) rows m i in
      let within = get_below rows m found.0 found.1.0 in
      let has = ((are.bits m found.0 found.1.0).members b).0 (listed_from found.0 b found.1.1) in
      mux_to g b m (let each = are.each in omega arith) has

  with_from : (b : DeviceBit) (m : ℕ) → In (muxes_of_bit g b) m → In (muxes_with rows b) m
  with_from b m i =
      let found = mux_from g b m i in
      let below = found.0 in
      let row = get_or rows m [] in
      let at = slice_get-get_or rows m [] (let each = are.each in omega arith) in
      place_to (λ (r : List DeviceBit). bits_of_list r b) rows m row at (listed_to row b (((are.bits m row at).members b).1 found.1))

  pub muxes_are : (b : DeviceBit) → muxes_with rows b ≡ muxes_of_bit g b
  muxes_are b =
      determined nat_cmp nat_cmp_total (muxes_with rows b) (muxes_of_bit g b) (places_rise (λ (r : List DeviceBit). bits_of_list r b) rows) (muxes_rise g b) (with_to b) (with_from b)

  -- the bits of all rows are those of all muxes
  pub all_are : ((a : GraphArc) → In g.arcs a → a.mux < length g.muxes) → (bits : List DeviceBit) → InOrderOnce bit_cmp (flat_map (λ row. row) rows) bits → AreMuxBits g bits
  all_are known bits listed = record { rising = listed.rising; members = λ b. ((λ i. to b ((listed.members b).0 i)), (λ i. (listed.members b).1 (from b i))) }
    where
      to : (b : DeviceBit) → In (flat_map (λ row. row) rows) b → In (mux_bits g) b
      to b i =
          let found = of_flat_map (λ (row : List DeviceBit). row) rows b i in
          let at = number_there rows found.0 found.1.0 in
          arc_names g b at.0 (((are.bits at.0 found.0 at.1).members b).0 found.1.1)

      from : (b : DeviceBit) → In (mux_bits g) b → In (flat_map (λ row. row) rows) b
      from b i =
          let found = mux_names g b i in
          let below = known found.0 found.1.0 in
          let row = get_or rows found.0.mux [] in
          let at = slice_get-get_or rows found.0.mux [] (let each = are.each in omega arith) in
          in_flat_map (λ (r : List DeviceBit). r) rows row b (get_in rows found.0.mux row at) (((are.bits found.0.mux row at).members b).1 found.1.1)
