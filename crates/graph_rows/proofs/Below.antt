-- The numbers of muxes and arcs are below the counts of what they are numbers of, and arcs stand in mux order.
use Rattle.std.proofs.Common.{◌≡◌, ℕ, ◌<◌, ◌≤◌, arith, List, [], ◌∷◌, length, map, flat_map, Option, None, Some, option_map, option_and_then, refl, sym, ap, subst, ◌∙◌}
use Rattle.std.specs.Prelude.{slice_get}
use Rattle.std.specs.Option.{option_map_or}
use Rattle.std.specs.List.{enumerate_from}
use Rattle.words.specs.Members.{In}
use Rattle.links.proofs.Members.{of_flat_map}
use Rattle.records.specs.Database.{Arc, Mux}
use Rattle.fabric.specs.Wires.{Wire, same_wire}
use Rattle.fabric.specs.InOrder.{InOrderOnce, IsRising}
use Rattle.fabric.specs.Device.{database_at}
use Rattle.fabric.specs.Graph.{GraphMux, GraphArc}
use Rattle.fabric.specs.GraphOf.{number_of, number_in, muxes_of, arcs_of}
use Rattle.fabric.specs.TileWires.{wire_in}
use Rattle.fabric_laws.proofs.Graphs.{some_same}
use Rattle.fabric_laws.proofs.Members.{in_filter_map_from}
use Rattle.fabric_laws.proofs.Numbered.{at_position, entry_is, get_in}
use Rattle.graph_lists.specs.ArcLists.{ArcNumbers, numbers_of, numbers_cmp, mux_order}
use Rattle.graph_lists.proofs.Fewer.{not_more}
use Rattle.arc_rows.proofs.Tied.{numbers_tied}
use Rattle.row_laws.proofs.MuxOrder.{in_mux_order}
use Rattle.mux_rows.specs.MuxTable as muxes
use Rattle.mux_rows.specs.MuxTable.{MuxNumbers}
use Rattle.arc_rows.specs.ArcTable as arcs
use Rattle.graph_numbers.specs.Numbers.{mux_numbers, source_in, mux_arc_numbers}
use Rattle.graph_numbers.specs.StandFor.{arc_of, arc_numbers}
use Rattle.graph_numbers.proofs.Numbered.{arcs_stand}
use Rattle.graph_numbers.proofs.Sorted.{numbers_are}
use Rattle.device_numbers.specs.Numbered.{Numbered, arcs_at, arcs_from}
use Rattle.device_numbers.proofs.MuxArcs.{MuxOf, what_it_is, below_of, tile_below, all_known}

-- the number of a wire is below how many there are
wire_below : (wires : List Wire) (o : Option Wire) (s : ℕ) → option_and_then (number_of wires) o ≡ Some s → s < length wires
wire_below wires None s h = absurd (let no : ⊥ = cc in no)
wire_below wires (Some w) s h = let p = at_position (same_wire w) wires s h in below_of wires s p.0 p.1.0

module _ (n : Numbered) where
  abbrev all : List MuxNumbers
  all = mux_numbers n.device n.wires

  pub tiles_below : muxes.AreBelow (λ m. m.tile) (length n.device.grid.tiles) all
  tiles_below m i = tile_below n m i

  sink_below : (m : MuxNumbers) → In all m → m.sink < length n.wires
  sink_below m i = let k = what_it_is n m i in wire_below n.wires (wire_in n.device.profile.rules k.tile k.mux.sink) m.sink k.sink

  pub sinks_below : muxes.AreBelow (λ m. m.sink) (length n.wires) all
  sinks_below = sink_below

  -- what an arc by numbers is of: a mux with its number, and the wire of a source
  record ArcOf (a : ArcNumbers) : Type 0 where
    m : MuxNumbers
    number : ℕ
    there : slice_get all number ≡ Some m
    mux : a.mux ≡ number
    sink : a.sink ≡ m.sink
    source : a.source < length n.wires

  source_made : (a : ArcNumbers) (m : MuxNumbers) (number place : ℕ) (o : Option ℕ) → slice_get all number ≡ Some m → ((s : ℕ) → o ≡ Some s → s < length n.wires)
      → option_map (λ s. let x : ArcNumbers = record { mux = number; place = place; source = s; sink = m.sink } in x) o ≡ Some a → ArcOf a
  source_made a m number place None there below h = absurd (let no : ⊥ = cc in no)
  source_made a m number place (Some s) there below h =
      subst ArcOf (some_same h) (record { m = m; number = number; there = there; mux = refl; sink = refl; source = below s refl })

  of_mux : (a : ArcNumbers) (number : ℕ) (m : MuxNumbers) → slice_get all number ≡ Some m → In (arcs_at n number m) a → ArcOf a
  of_mux a number m there i =
      let k = what_it_is n m (get_in all number m there) in
      let arcs_are : arcs_at n number m ≡ mux_arc_numbers n.device n.wires k.tile number m.sink k.mux = rw (k.in_tile, k.at_place) refl in
      let p = in_filter_map_from (λ (x : ℕ × Arc). source_in n.device n.wires k.tile number m.sink x.0 x.1) (enumerate_from 0 k.mux.arcs) a (subst (λ xs. In xs a) arcs_are i) in
      source_made a m number p.0.0 (number_in n.wires n.device.profile.rules k.tile p.0.1.source) there (λ s e. wire_below n.wires (wire_in n.device.profile.rules k.tile p.0.1.source) s e) p.2

  abbrev whole : List ArcNumbers
  whole = arc_numbers n.device n.wires (muxes_of n.device n.wires)

  arc_of_mux : (a : ArcNumbers) → In whole a → ArcOf a
  arc_of_mux a i =
      let t = of_flat_map (λ (x : ℕ × MuxNumbers). arcs_at n x.0 x.1) (enumerate_from 0 all) a (subst (λ xs. In xs a) (sym (all_known n all refl)) i) in
      of_mux a t.0.0 t.0.1 (entry_is all t.0.0 t.0.1 t.1.0) t.1.1

  pub record AreAllBelow (ms : List MuxNumbers) : Type 0 where
    pub sources : arcs.AreBelow (λ a. a.source) (length n.wires) whole
    pub sinks : arcs.AreBelow (λ a. a.sink) (length n.wires) whole
    pub of_muxes : arcs.AreBelow (λ a. a.mux) (length ms) whole

  pub arcs_below : (ms : List MuxNumbers) → ms ≡ all → AreAllBelow ms
  arcs_below ms are = record {
    sources = λ a i. (arc_of_mux a i).source;
    sinks = λ a i. (let k = arc_of_mux a i in subst (λ s. s < length n.wires) (sym k.sink) (sink_below k.m (get_in all k.number k.m k.there)));
    of_muxes = λ a i. (let k = arc_of_mux a i in subst (λ xs. a.mux < length xs) (sym are) (subst (λ x. x < length all) (sym k.mux) (below_of all k.number k.m k.there)));
  }

  -- arcs by numbers are the numbers of the device's arcs
  their_numbers : (xs : List ArcNumbers) (ys : List GraphArc) → map (arc_of (muxes_of n.device n.wires)) xs ≡ map (λ y. Some y) ys → map numbers_of ys ≡ xs
  their_numbers [] [] h = refl
  their_numbers [] (y ∷ ys) h = absurd (let no : ⊥ = cc in no)
  their_numbers (x ∷ xs) [] h = absurd (let no : ⊥ = cc in no)
  their_numbers (x ∷ xs) (y ∷ ys) h =
      let first : arc_of (muxes_of n.device n.wires) x ≡ Some y = cc in
      let rest : map (arc_of (muxes_of n.device n.wires)) xs ≡ map (λ v. Some v) ys = cc in
      ap (λ z. z ∷ map numbers_of ys) (numbers_are (muxes_of n.device n.wires) x y first) ∙ ap (λ zs. x ∷ zs) (their_numbers xs ys rest)

  pub arcs_rise : IsRising mux_order whole
  arcs_rise = subst (IsRising mux_order) (their_numbers whole (arcs_of n.device n.wires) (arcs_stand n.device n.wires)) (in_mux_order n.device n.wires)

-- in order, each once, arcs are no more than they were
pub no_more_arcs : (named sorted : List ArcNumbers) (most : ℕ) → InOrderOnce numbers_cmp named sorted → length named ≤ most → length sorted ≤ most
no_more_arcs named sorted most are few = (let l = not_more numbers_cmp numbers_tied named sorted are in omega arith)
