-- A device has one graph: that which insertion makes of it.
use Rattle.std.proofs.Common.{◌≡◌, ℕ, List, [], flat_map, filter_map, Option, Some, None, option_map, refl, sym, ap, subst, ◌∙◌}
use Rattle.std.specs.Prelude.{slice_get}
use Rattle.std.specs.Ordering.{nat_cmp}
use Rattle.std.specs.Option.{option_map_or}
use Rattle.std.specs.List.{enumerate_from}
use Rattle.std.specs.Cmp.{nat_cmp_total}
use Rattle.std.specs.FinMap.{nat_cmp-IsAntisymmetric}
use Rattle.words.specs.Members.{In}
use Rattle.records.specs.Database.{Arc}
use Rattle.records.specs.Grid.{Tile}
use Rattle.fabric.specs.InOrder.{InOrderOnce}
use Rattle.fabric.specs.Wires.{Wire, wire_cmp}
use Rattle.fabric.specs.Device.{Device}
use Rattle.fabric.specs.TileWires.{tile_wires}
use Rattle.fabric.specs.Graph.{GraphMux, GraphArc, Graph}
use Rattle.fabric.specs.GraphOf.{number_in, muxes_of, arc_in, mux_arcs, arcs_of, arc_cmp, link_cmp, fixed_of, outputs_of, IsGraph}
use Rattle.links.proofs.Members.{of_flat_map}
use Rattle.fabric_laws.specs.PlainGraph.{graph_of}
use Rattle.fabric_laws.proofs.Members.{in_filter_map_from}
use Rattle.fabric_laws.proofs.Orders.{wire_total, wire_same, link_total, link_same, arc_total, OnePlace, arc_ties}
use Rattle.fabric_laws.proofs.Sorted.{one_list, sorted}
use Rattle.fabric_laws.proofs.Numbered.{one_entry}

pub some_same : {X : Type 0} {x y : X} → Some x ≡ Some y → x ≡ y
some_same {x} {y} e = let same : x ≡ y = cc in same

-- graphs with the same lists are equal
same_graph : (g h : Graph) → g.grid ≡ h.grid → g.wires ≡ h.wires → g.muxes ≡ h.muxes → g.arcs ≡ h.arcs → g.fixed ≡ h.fixed → g.outputs ≡ h.outputs → g.settings ≡ h.settings → g ≡ h
same_graph g h grid wires muxes arcs fixed outputs settings i =
    record { grid = grid i; wires = wires i; muxes = muxes i; arcs = arcs i; fixed = fixed i; outputs = outputs i; settings = settings i }

pub one_graph : (device : Device) (g h : Graph) → IsGraph device g → IsGraph device h → g ≡ h
one_graph device g h a b = same_graph g h (a.grid ∙ sym b.grid) same
    (a.muxes ∙ ap (muxes_of device) same ∙ sym b.muxes)
    (one_list arc_cmp arc_total (arcs_of device g.wires) g.arcs h.arcs a.arcs (subst (λ ws. InOrderOnce arc_cmp (arcs_of device ws) h.arcs) (sym same) b.arcs))
    (one_list link_cmp link_total (fixed_of device g.wires) g.fixed h.fixed a.fixed (subst (λ ws. InOrderOnce link_cmp (fixed_of device ws) h.fixed) (sym same) b.fixed))
    (one_list nat_cmp nat_cmp_total (outputs_of device g.wires) g.outputs h.outputs a.outputs (subst (λ ws. InOrderOnce nat_cmp (outputs_of device ws) h.outputs) (sym same) b.outputs))
    (a.settings ∙ sym b.settings)
  where
    same : g.wires ≡ h.wires
    same = one_list wire_cmp wire_total (flat_map (tile_wires device) device.grid.tiles) g.wires h.wires a.wires b.wires

-- An arc of a device, as it is numbered: its mux by number, the mux's tile, its place in the mux, and its wires.
pub record IsArcOf (device : Device) (wires : List Wire) (a : GraphArc) : Type 0 where
  pub mux : GraphMux
  pub tile : Tile
  pub of_mux : In (enumerate_from 0 (muxes_of device wires)) (a.mux, mux)
  pub in_tile : slice_get device.grid.tiles mux.tile ≡ Some tile
  pub listed : In (enumerate_from 0 mux.mux.arcs) (a.place, a.arc)
  pub source : number_in wires device.profile.rules tile a.arc.source ≡ Some a.source
  pub sink : a.sink ≡ mux.sink
  pub origin : a.origin ≡ mux.origin

arc_made : (device : Device) (wires : List Wire) (number : ℕ) (mux : GraphMux) (tile : Tile) (place : ℕ) (arc : Arc) (a : GraphArc) (source : Option ℕ)
    → slice_get device.grid.tiles mux.tile ≡ Some tile → In (enumerate_from 0 (muxes_of device wires)) (number, mux) → In (enumerate_from 0 mux.mux.arcs) (place, arc)
    → number_in wires device.profile.rules tile arc.source ≡ source
    → option_map (λ s. let made : GraphArc = record { mux = number; place = place; source = s; sink = mux.sink; origin = mux.origin; arc = arc } in made) source ≡ Some a → IsArcOf device wires a
arc_made device wires number mux tile place arc a None at i j e q = absurd (let no : ⊥ = cc in no)
arc_made device wires number mux tile place arc a (Some s) at i j e q =
    subst (IsArcOf device wires) same (record { mux = mux; tile = tile; of_mux = i; in_tile = at; listed = j; source = e; sink = refl; origin = refl })
  where
    same : record { mux = number; place = place; source = s; sink = mux.sink; origin = mux.origin; arc = arc } ≡ a
    same = some_same q

arc_of_tile : (device : Device) (wires : List Wire) (number : ℕ) (mux : GraphMux) (a : GraphArc) (o : Option Tile) → slice_get device.grid.tiles mux.tile ≡ o
    → In (enumerate_from 0 (muxes_of device wires)) (number, mux)
    → In (option_map_or (λ tile. filter_map (λ p. arc_in device wires tile number mux p.0 p.1) (enumerate_from 0 mux.mux.arcs)) o []) a → IsArcOf device wires a
arc_of_tile device wires number mux a None e i h = absurd h
arc_of_tile device wires number mux a (Some tile) e i h =
    let r = in_filter_map_from (λ p. arc_in device wires tile number mux p.0 p.1) (enumerate_from 0 mux.mux.arcs) a h in
    arc_made device wires number mux tile r.0.0 r.0.1 a (number_in wires device.profile.rules tile r.0.1.source) e i r.1 refl r.2

pub arc_of : (device : Device) (wires : List Wire) (a : GraphArc) → In (arcs_of device wires) a → IsArcOf device wires a
arc_of device wires a h =
    let r = of_flat_map (λ m. mux_arcs device wires m.0 m.1) (enumerate_from 0 (muxes_of device wires)) a h in
    arc_of_tile device wires r.0.0 r.0.1 a (slice_get device.grid.tiles r.0.1.tile) refl r.1.0 r.1.1

-- arcs of one place in one mux are one arc
pub one_arc : (device : Device) (wires : List Wire) (a b : GraphArc) → IsArcOf device wires a → IsArcOf device wires b → OnePlace a b → b ≡ a
one_arc device wires a b p q one i =
    record { mux = muxes i; place = places i; source = sources i; sink = sinks i; origin = origins i; arc = arcs i }
  where
    muxes : b.mux ≡ a.mux
    muxes = sym one.mux

    places : b.place ≡ a.place
    places = sym one.place

    same_mux : q.mux ≡ p.mux
    same_mux = one_entry (muxes_of device wires) 0 a.mux q.mux p.mux (subst (λ n. In (enumerate_from 0 (muxes_of device wires)) (n, q.mux)) muxes q.of_mux) p.of_mux

    arcs : b.arc ≡ a.arc
    arcs = one_entry p.mux.mux.arcs 0 a.place b.arc a.arc
        (subst (λ n. In (enumerate_from 0 p.mux.mux.arcs) (n, b.arc)) places (subst (λ m. In (enumerate_from 0 m.mux.arcs) (b.place, b.arc)) same_mux q.listed)) p.listed

    tiles : q.tile ≡ p.tile
    tiles = some_same (sym q.in_tile ∙ ap (λ m. slice_get device.grid.tiles m.tile) same_mux ∙ p.in_tile)

    sources : b.source ≡ a.source
    sources = some_same (sym q.source ∙ ap (λ t. number_in wires device.profile.rules t b.arc.source) tiles ∙ ap (λ x. number_in wires device.profile.rules p.tile x.source) arcs ∙ p.source)

    sinks : b.sink ≡ a.sink
    sinks = q.sink ∙ ap (λ m. m.sink) same_mux ∙ sym p.sink

    origins : b.origin ≡ a.origin
    origins = q.origin ∙ ap (λ m. m.origin) same_mux ∙ sym p.origin

pub has_graph : (device : Device) → IsGraph device (graph_of device)
has_graph device =
    let wires = (graph_of device).wires in
    record {
      grid = refl;
      wires = sorted wire_cmp wire_total (flat_map (tile_wires device) device.grid.tiles) (λ x y i j e. sym (wire_same x y e));
      muxes = refl;
      arcs = sorted arc_cmp arc_total (arcs_of device wires) (λ a b i j e. one_arc device wires a b (arc_of device wires a i) (arc_of device wires b j) (arc_ties a b e));
      fixed = sorted link_cmp link_total (fixed_of device wires) (λ x y i j e. sym (link_same x y e));
      outputs = sorted nat_cmp nat_cmp_total (outputs_of device wires) (λ x y i j e. sym (nat_cmp-IsAntisymmetric x y e));
      settings = refl;
    }
