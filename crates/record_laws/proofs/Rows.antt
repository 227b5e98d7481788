-- The rows of the bits of a device's muxes are those of the muxes of its graph.
use Rattle.std.proofs.Common.{◌≡◌, ℕ, ◌<◌, Bool, true, false, List, [], length, get_or, map, filter, flat_map, Some, option_map, refl, sym, ap, subst, ◌∙◌}
use Rattle.std.specs.Prelude.{◌==◌, slice_get, filter_map, if◌then◌else◌}
use Rattle.std.specs.Option.{option_map_or}
use Rattle.std.specs.List.{enumerate_from, range_with_len}
use Rattle.std.specs.Ordering.{nat_cmp}
use Rattle.std.proofs.lemmas.Bool.{eqb-true, eq-eqb}
use Rattle.std.proofs.lemmas.List.{length-map}
use Rattle.std.proofs.lemmas.List.FromFn.{length-range_with_len}
use Rattle.std.proofs.lemmas.Option.{slice_get-get_or}
use Rattle.words.specs.Members.{In}
use Rattle.links.proofs.Members.{in_map, of_map, in_flat_map, of_flat_map}
use Rattle.patterns.specs.Bits.{DeviceBit, device_bit}
use Rattle.records.specs.Database.{Arc, Mux}
use Rattle.records.specs.Grid.{Tile, origin_of}
use Rattle.records.specs.Profile.{Rules}
use Rattle.fabric.specs.InOrder.{InOrderOnce}
use Rattle.fabric.specs.Device.{Device, database_at}
use Rattle.fabric.specs.Graph.{GraphMux, GraphArc, Graph}
use Rattle.fabric.specs.GraphOf.{IsGraph, muxes_of, arc_in, mux_arcs, arcs_of}
use Rattle.fabric.specs.Links.{arcs_of_mux}
use Rattle.fabric.specs.MuxBits.{bit_cmp, bits_named}
use Rattle.fabric_laws.proofs.Graphs.{arc_of, some_same}
use Rattle.fabric_laws.proofs.Members.{in_filter_from, in_filter_to, in_filter_map_to}
use Rattle.fabric_laws.proofs.Numbered.{entry_is, entry_to, get_in, number_there}
use Rattle.graph_lists.specs.BitLists.{bits_in as bits_of_graph}
use Rattle.graph_lists.proofs.Listed.{equal_is, rising_map_filter}
use Rattle.graph_lists.proofs.Pairs.{second_less}
use Rattle.record_laws.specs.KeptBits.{is_ignored}
use Rattle.mux_rows.specs.MuxTable.{MuxNumbers}
use Rattle.graph_numbers.specs.Numbers.{mux_numbers}
use Rattle.graph_numbers.specs.StandFor.{mux_of}
use Rattle.record_laws.proofs.MuxOf.{MuxOf, below_of}
use Rattle.bit_rows.specs.MuxBits.{MuxBit, bits_by_mux, mux_first}
use Rattle.bit_rows.proofs.Inverse.{get_row}
use Rattle.row_laws.specs.BitRows.{AreBitRows}
use Rattle.record_laws.specs.KeptBits.{arc_bits, bits_at, kept_bits, moved, mux_pairs, pairs_from, pairs_in, place_bit}
use Rattle.record_laws.proofs.Behind.{as_long, graph_mux, in_graph, of, stand}
use Rattle.record_laws.proofs.Kept.{kept, not_ignored}
use Rattle.record_laws.proofs.Order.{in_order_once}
use Rattle.record_laws.proofs.Pairs.{all_rise, pair_of}

-- the bits of a test's choice
chosen_from : (b : Bool) (bits : List DeviceBit) (z : DeviceBit) → In (if b then [] else bits) z → (b ≡ false) × In bits z
chosen_from true bits z i = absurd i
chosen_from false bits z i = (refl, i)

module _ (device : Device) (g : Graph) (is : IsGraph device g) (muxes : List MuxNumbers) (are : muxes ≡ mux_numbers device g.wires) where
  abbrev rules : Rules
  rules = device.profile.rules

  module _ (m : ℕ) (num : MuxNumbers) (at : slice_get muxes m ≡ Some num) where
    abbrev behind : MuxOf (record { device = device; wires = g.wires }) num
    behind = of device g is muxes are m num at

    abbrev tile : Tile
    tile = behind.tile

    abbrev mux : Mux
    mux = behind.mux

    abbrev it : GraphMux
    it = graph_mux device g is muxes are m num at

    there_is : slice_get (muxes_of device g.wires) m ≡ Some it
    there_is = in_graph device g is muxes are m num at

    -- ---- the bits of its pairs

    own : mux_pairs device m num ≡ pairs_in m tile (kept_bits rules mux)
    own =
        let bits : bits_at device num.tile num.place ≡ Some (kept_bits rules mux) = rw (behind.in_tile, behind.at_place) refl in
        ap (λ o. option_map_or (λ t. option_map_or (pairs_in m t) (bits_at device num.tile num.place) []) o []) behind.in_tile
        ∙ ap (λ o. option_map_or (pairs_in m tile) o []) bits

    abbrev row : List DeviceBit
    row = map (λ p. p.bit) (filter (λ p. p.mux == m) (pairs_from device 0 muxes))

    row_from : (z : DeviceBit) → In row z → (b : DeviceBit) × (In (kept_bits rules mux) b × (moved (origin_of tile) b ≡ z))
    row_from z i =
        let p = of_map (λ (p : MuxBit). p.bit) (filter (λ p. p.mux == m) (pairs_from device 0 muxes)) z i in
        let passes = in_filter_from (λ (p : MuxBit). p.mux == m) (pairs_from device 0 muxes) p.0 p.1.0 in
        let e = of_flat_map (λ (e : ℕ × MuxNumbers). mux_pairs device e.0 e.1) (enumerate_from 0 muxes) p.0 passes.0 in
        let number : e.0.0 ≡ m = sym (pair_of device e.0.0 e.0.1 p.0 e.1.1) ∙ eqb-true p.0.mux m passes.1 in
        let same : e.0.1 ≡ num = some_same (sym (entry_is muxes e.0.0 e.0.1 e.1.0) ∙ (ap (slice_get muxes) number ∙ at)) in
        let there : In (pairs_in m tile (kept_bits rules mux)) p.0 = subst (λ ps. In ps p.0) (ap (λ k. mux_pairs device k e.0.1) number ∙ (ap (mux_pairs device m) same ∙ own)) e.1.1 in
        let b = of_map (λ (b : DeviceBit). let x : MuxBit = record { mux = m; bit = moved (origin_of tile) b } in x) (kept_bits rules mux) p.0 there in
        (b.0, (b.1.0, ap (λ (x : MuxBit). x.bit) b.1.1 ∙ p.1.1))

    row_to : (b : DeviceBit) → In (kept_bits rules mux) b → In row (moved (origin_of tile) b)
    row_to b i =
        let p : MuxBit = record { mux = m; bit = moved (origin_of tile) b } in
        let mine : In (mux_pairs device m num) p = subst (λ ps. In ps p) (sym own) (in_map (λ (b : DeviceBit). let x : MuxBit = record { mux = m; bit = moved (origin_of tile) b } in x) (kept_bits rules mux) b i) in
        let among = in_flat_map (λ (e : ℕ × MuxNumbers). mux_pairs device e.0 e.1) (enumerate_from 0 muxes) (m, num) p (entry_to muxes m num at) mine in
        in_map (λ (p : MuxBit). p.bit) (filter (λ p. p.mux == m) (pairs_from device 0 muxes)) p (in_filter_to (λ (p : MuxBit). p.mux == m) (pairs_from device 0 muxes) p among (eq-eqb m m refl))

    -- ---- the bits of its arcs

    abbrev named : List DeviceBit
    named = flat_map (arc_bits rules) mux.arcs

    graph_from : (z : DeviceBit) → In (bits_of_graph g m) z → (b : DeviceBit) × (In named b × (moved (origin_of tile) b ≡ z))
    graph_from z i =
        let a = of_flat_map (λ (a : GraphArc). bits_named a.origin a.arc.bits) (arcs_of_mux g m) z i in
        let passes = in_filter_from (λ (a : GraphArc). a.mux == m) g.arcs a.0 a.1.0 in
        let k = arc_of device g.wires a.0 ((is.arcs.members a.0).0 passes.0) in
        let number : a.0.mux ≡ m = eqb-true a.0.mux m passes.1 in
        let same : k.mux ≡ it = some_same (sym (entry_is (muxes_of device g.wires) a.0.mux k.mux k.of_mux) ∙ (ap (slice_get (muxes_of device g.wires)) number ∙ there_is)) in
        let listed : In mux.arcs a.0.arc = get_in mux.arcs a.0.place a.0.arc (ap (λ (x : GraphMux). slice_get x.mux.arcs a.0.place) (sym same) ∙ entry_is k.mux.mux.arcs a.0.place a.0.arc k.listed) in
        let plain = not_ignored g.wires rules k.tile a.0.arc.source a.0.source k.source in
        let p = of_map (device_bit a.0.origin) a.0.arc.bits z a.1.1 in
        let b = place_bit p.0 in
        let mine : In (arc_bits rules a.0.arc) b = subst (λ t. In (if t then [] else map place_bit a.0.arc.bits) b) (sym plain) (in_map place_bit a.0.arc.bits p.0 p.1.0) in
        let origin : a.0.origin ≡ origin_of tile = k.origin ∙ ap (λ (x : GraphMux). x.origin) same in
        (b, (in_flat_map (arc_bits rules) mux.arcs a.0.arc b listed mine, ap (λ o. device_bit o p.0) (sym origin) ∙ p.1.1))

    graph_to : (b : DeviceBit) → In named b → In (bits_of_graph g m) (moved (origin_of tile) b)
    graph_to b i =
        let a = of_flat_map (arc_bits rules) mux.arcs b i in
        let plain = chosen_from (is_ignored rules a.0.source) (map place_bit a.0.bits) b a.1.1 in
        let p = of_map place_bit a.0.bits b plain.1 in
        let place = number_there mux.arcs a.0 a.1.0 in
        let source = kept device g.wires is.wires tile (get_in device.grid.tiles num.tile tile behind.in_tile) mux (get_in (database_at device.types tile).muxes num.place mux behind.at_place) num.sink behind.sink a.0 a.1.0 plain.0 in
        let arc : GraphArc = record { mux = m; place = place.0; source = source.0; sink = num.sink; origin = origin_of tile; arc = a.0 } in
        let made : arc_in device g.wires tile m it place.0 a.0 ≡ Some arc = ap (option_map (λ s. let x : GraphArc = record { mux = m; place = place.0; source = s; sink = num.sink; origin = origin_of tile; arc = a.0 } in x)) source.1 in
        let in_mux : In (mux_arcs device g.wires m it) arc =
        subst (λ o. In (option_map_or (λ t. filter_map (λ e. arc_in device g.wires t m it e.0 e.1) (enumerate_from 0 mux.arcs)) o []) arc) (sym behind.in_tile)
        (in_filter_map_to (λ (e : ℕ × Arc). arc_in device g.wires tile m it e.0 e.1) (enumerate_from 0 mux.arcs) (place.0, a.0) arc (entry_to mux.arcs place.0 a.0 place.1) made) in
        let in_all : In (arcs_of device g.wires) arc = in_flat_map (λ (e : ℕ × GraphMux). mux_arcs device g.wires e.0 e.1) (enumerate_from 0 (muxes_of device g.wires)) (m, it) arc (entry_to (muxes_of device g.wires) m it there_is) in_mux in
        let in_own = in_filter_to (λ (a : GraphArc). a.mux == m) g.arcs arc ((is.arcs.members arc).1 in_all) (eq-eqb m m refl) in
        let bit : moved (origin_of tile) (place_bit p.0) ≡ moved (origin_of tile) b = ap (moved (origin_of tile)) p.1.1 in
        subst (In (bits_of_graph g m)) bit
        (in_flat_map (λ (a : GraphArc). bits_named a.origin a.arc.bits) (arcs_of_mux g m) arc (device_bit (origin_of tile) p.0) in_own (in_map (device_bit (origin_of tile)) a.0.bits p.0 p.1.0))

    -- the row is that of the mux
    pub row_is : InOrderOnce bit_cmp (bits_of_graph g m) row
    row_is = record {
      rising = rising_map_filter mux_first bit_cmp (λ (p : MuxBit). p.mux == m) (λ (p : MuxBit). p.bit)
          (λ x y here there less. second_less (nat_cmp x.mux y.mux) (bit_cmp x.bit y.bit) (equal_is x.mux y.mux (eqb-true x.mux m here ∙ sym (eqb-true y.mux m there))) less)
          (pairs_from device 0 muxes) (all_rise device 0 muxes);
      members = λ z. (
        (λ i. let b = row_from z i in subst (In (bits_of_graph g m)) b.1.1 (graph_to b.0 (((in_order_once named).members b.0).0 b.1.0))),
        (λ i. let b = graph_from z i in subst (In row) b.1.1 (row_to b.0 (((in_order_once named).members b.0).1 b.1.0))),
      );
    }

  -- so are all rows
  pub rows_are : (pairs : List MuxBit) (rows : List (List DeviceBit)) → pairs ≡ pairs_from device 0 muxes → rows ≡ bits_by_mux (length muxes) pairs → AreBitRows g rows
  rows_are pairs rows made is_rows = record {
    each = ap (λ rs. length rs) is_rows ∙ (long ∙ (as_long (mux_of device) muxes (muxes_of device g.wires) (stand device g is muxes are) ∙ ap (λ ms. length ms) (sym is.muxes)));
    bits = λ m r h. row_at_is m r h;
  }
    where
      long : length (bits_by_mux (length muxes) pairs) ≡ length muxes
      long = length-map (range_with_len 0 (length muxes)) (λ m. map (λ p. p.bit) (filter (λ p. p.mux == m) pairs)) ∙ length-range_with_len 0 (length muxes)

      row_at_is : (m : ℕ) (r : List DeviceBit) → slice_get rows m ≡ Some r → InOrderOnce bit_cmp (bits_of_graph g m) r
      row_at_is m r h =
          let there : slice_get (bits_by_mux (length muxes) pairs) m ≡ Some r = ap (λ rs. slice_get rs m) (sym is_rows) ∙ h in
          let below : m < length muxes = subst (λ k. m < k) long (below_of (bits_by_mux (length muxes) pairs) m r there) in
          let d : MuxNumbers = record { tile = 0; place = 0; sink = 0 } in
          let at = slice_get-get_or muxes m d below in
          let mine : map (λ p. p.bit) (filter (λ p. p.mux == m) pairs) ≡ r = some_same (sym (get_row (λ k. map (λ p. p.bit) (filter (λ p. p.mux == k) pairs)) (length muxes) m below) ∙ there) in
          subst (InOrderOnce bit_cmp (bits_of_graph g m)) (ap (λ ps. map (λ p. p.bit) (filter (λ p. p.mux == m) ps)) (sym made) ∙ mine) (row_is m (get_or muxes m d) at)
