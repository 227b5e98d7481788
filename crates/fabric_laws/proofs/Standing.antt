-- What the numbers of muxes and arcs stand for, and that no arc is lost.
use Rattle.std.proofs.Common.{◌≡◌, ℕ, inl, inr, List, [], ◌∷◌, ◌++◌, flat_map, filter_map, Option, Some, None, option_map, option_and_then, refl, sym, ap, subst, ◌∙◌}
use Rattle.std.specs.Prelude.{slice_get}
use Rattle.std.specs.Option.{option_map_or}
use Rattle.std.specs.List.{enumerate_from}
use Rattle.words.specs.Members.{In}
use Rattle.records.specs.Database.{Arc, Mux}
use Rattle.records.specs.Grid.{Tile, origin_of}
use Rattle.records.specs.Profile.{Rules}
use Rattle.fabric.specs.Wires.{Wire, same_wire}
use Rattle.fabric.specs.Device.{Device, database_at, fixed_at}
use Rattle.fabric.specs.TileWires.{wire_in, mux_wires, fixed_wires, tile_wires}
use Rattle.fabric.specs.Graph.{GraphMux, GraphArc, Graph}
use Rattle.fabric.specs.GraphOf.{number_of, number_in, tile_muxes, muxes_of, arc_in, mux_arcs, IsGraph}
use Rattle.links.proofs.Members.{in_left, in_flat_map, of_flat_map}
use Rattle.fabric_laws.specs.Stands.{StandsFor, MuxStands, ArcStands, NamesArc, HasArc}
use Rattle.fabric_laws.proofs.Members.{in_filter_map_from, in_filter_map_to}
use Rattle.fabric_laws.proofs.Orders.{same_wire_is, same_wire_refl}
use Rattle.fabric_laws.proofs.Numbered.{entry_to, entry_is, get_in, at_position, position_there, number_there}
use Rattle.fabric_laws.proofs.Graphs.{some_same, arc_of}

number_stands : (device : Device) (g : Graph) (tile : Tile) (name : List ℕ) (n : ℕ) (o : Option Wire) → wire_in device.profile.rules tile name ≡ o
    → option_and_then (number_of g.wires) o ≡ Some n → StandsFor device g tile name n
number_stands device g tile name n None e h = absurd (let no : ⊥ = cc in no)
number_stands device g tile name n (Some wire) e h =
    let r = at_position (same_wire wire) g.wires n h in
    record { wire = wire; named = e; numbered = r.1.0 ∙ ap (λ w. Some w) (sym (same_wire_is wire r.0 r.1.1)) }

pub stands : (device : Device) (g : Graph) (tile : Tile) (name : List ℕ) (n : ℕ) → number_in g.wires device.profile.rules tile name ≡ Some n → StandsFor device g tile name n
stands device g tile name n h = number_stands device g tile name n (wire_in device.profile.rules tile name) refl h

-- a mux as it is made of a tile's mux
mux_made : (device : Device) (g : Graph) (number : ℕ) (tile : Tile) (mux : Mux) (m : GraphMux) (sink : Option ℕ)
    → slice_get device.grid.tiles number ≡ Some tile → In (database_at device.types tile).muxes mux → number_in g.wires device.profile.rules tile mux.sink ≡ sink
    → option_map (λ s. let made : GraphMux = record { tile = number; origin = origin_of tile; sink = s; mux = mux } in made) sink ≡ Some m → MuxStands device g m
mux_made device g number tile mux m None at i e q = absurd (let no : ⊥ = cc in no)
mux_made device g number tile mux m (Some s) at i e q =
    subst (MuxStands device g) same (record { tile = tile; in_tile = at; listed = i; origin = refl; sink = stands device g tile mux.sink s e })
  where
    same : record { tile = number; origin = origin_of tile; sink = s; mux = mux } ≡ m
    same = some_same q

mux_of : (device : Device) (g : Graph) (m : GraphMux) → In (muxes_of device g.wires) m → MuxStands device g m
mux_of device g m h =
    let r = of_flat_map (λ t. tile_muxes device g.wires t.0 t.1) (enumerate_from 0 device.grid.tiles) m h in
    let s = in_filter_map_from (λ mux. option_map (λ sink. let made : GraphMux = record { tile = r.0.0; origin = origin_of r.0.1; sink = sink; mux = mux } in made) (number_in g.wires device.profile.rules r.0.1 mux.sink)) (database_at device.types r.0.1).muxes m r.1.1 in
    mux_made device g r.0.0 r.0.1 s.0 m (number_in g.wires device.profile.rules r.0.1 s.0.sink) (entry_is device.grid.tiles r.0.0 r.0.1 r.1.0) s.1 refl s.2

pub mux_stands : (device : Device) (g : Graph) → IsGraph device g → (m : GraphMux) → In g.muxes m → MuxStands device g m
mux_stands device g is m i = mux_of device g m (subst (λ ms. In ms m) is.muxes i)

pub arc_stands : (device : Device) (g : Graph) → IsGraph device g → (a : GraphArc) → In g.arcs a → ArcStands device g a
arc_stands device g is a i =
    let r = arc_of device g.wires a ((is.arcs.members a).0 i) in
    let at : slice_get g.muxes a.mux ≡ Some r.mux = ap (λ ms. slice_get ms a.mux) is.muxes ∙ entry_is (muxes_of device g.wires) a.mux r.mux r.of_mux in
    let m = mux_stands device g is r.mux (get_in g.muxes a.mux r.mux at) in
    let same_tile : m.tile ≡ r.tile = some_same (sym m.in_tile ∙ r.in_tile) in
    record {
      mux = r.mux;
      tile = r.tile;
      of_mux = at;
      in_tile = r.in_tile;
      listed = entry_is r.mux.mux.arcs a.place a.arc r.listed;
      same_sink = r.sink;
      origin = r.origin ∙ m.origin ∙ ap origin_of same_tile;
      sink = subst (λ n. StandsFor device g r.tile r.mux.mux.sink n) (sym r.sink) (subst (λ t. StandsFor device g t r.mux.mux.sink r.mux.sink) same_tile m.sink);
      source = stands device g r.tile a.arc.source a.source r.source;
    }

module _ (device : Device) (g : Graph) (is : IsGraph device g) (number : ℕ) (mux : Mux) (place : ℕ) (arc : Arc) (n : NamesArc device number mux place arc) where
  rules : Rules
  rules = device.profile.rules

  -- a wire of the mux is one of the graph
  wire_there : (w : Wire) → In (mux_wires device.profile.rules n.tile mux) w → In g.wires w
  wire_there w i = (is.wires.members w).1 (in_flat_map (tile_wires device) device.grid.tiles n.tile w (get_in device.grid.tiles number n.tile n.in_tile)
      (in_left (flat_map (mux_wires device.profile.rules n.tile) (database_at device.types n.tile).muxes ++ flat_map (fixed_wires device.profile.rules n.tile) (fixed_at device n.tile)) _ w
      (in_left (flat_map (mux_wires device.profile.rules n.tile) (database_at device.types n.tile).muxes) _ w
      (in_flat_map (mux_wires device.profile.rules n.tile) (database_at device.types n.tile).muxes mux w n.of_mux i))))

  all_wires : mux_wires device.profile.rules n.tile mux ≡ n.sink ∷ filter_map (λ a. wire_in device.profile.rules n.tile a.source) mux.arcs
  all_wires = ap (λ o. option_map_or (λ sink. sink ∷ filter_map (λ a. wire_in device.profile.rules n.tile a.source) mux.arcs) o []) n.sink_named

  sink_there : In g.wires n.sink
  sink_there = wire_there n.sink (subst (λ ws. In ws n.sink) (sym all_wires) (inl refl))

  source_there : In g.wires n.source
  source_there = wire_there n.source (subst (λ ws. In ws n.source) (sym all_wires)
      (inr (in_filter_map_to (λ a. wire_in device.profile.rules n.tile a.source) mux.arcs arc n.source (get_in mux.arcs place arc n.listed) n.source_named)))

  numbered : (w : Wire) → In g.wires w → (i : ℕ) × (number_of g.wires w ≡ Some i)
  numbered w i = position_there (same_wire w) g.wires w i (same_wire_refl w)

  sink_number : ℕ
  sink_number = (numbered n.sink sink_there).0

  source_number : ℕ
  source_number = (numbered n.source source_there).0

  sink_is : number_in g.wires device.profile.rules n.tile mux.sink ≡ Some sink_number
  unfolding sink_number
  sink_is = ap (λ o. option_and_then (number_of g.wires) o) n.sink_named ∙ (numbered n.sink sink_there).1

  source_is : number_in g.wires device.profile.rules n.tile arc.source ≡ Some source_number
  unfolding source_number
  source_is = ap (λ o. option_and_then (number_of g.wires) o) n.source_named ∙ (numbered n.source source_there).1

  made_mux : GraphMux
  made_mux = record { tile = number; origin = origin_of n.tile; sink = sink_number; mux = mux }

  made_there : In (muxes_of device g.wires) made_mux
  unfolding made_mux
  made_there = in_flat_map (λ t. tile_muxes device g.wires t.0 t.1) (enumerate_from 0 device.grid.tiles) (number, n.tile) made_mux (entry_to device.grid.tiles number n.tile n.in_tile)
      (in_filter_map_to (λ m. option_map (λ s. let made : GraphMux = record { tile = number; origin = origin_of n.tile; sink = s; mux = m } in made) (number_in g.wires device.profile.rules n.tile m.sink))
      (database_at device.types n.tile).muxes mux made_mux n.of_mux
      (ap (λ o. option_map (λ s. let made : GraphMux = record { tile = number; origin = origin_of n.tile; sink = s; mux = mux } in made) o) sink_is))

  mux_number : ℕ
  mux_number = (number_there (muxes_of device g.wires) made_mux made_there).0

  mux_is : slice_get (muxes_of device g.wires) mux_number ≡ Some made_mux
  unfolding mux_number
  mux_is = (number_there (muxes_of device g.wires) made_mux made_there).1

  made_arc : GraphArc
  made_arc = record { mux = mux_number; place = place; source = source_number; sink = sink_number; origin = origin_of n.tile; arc = arc }

  arc_there : In g.arcs made_arc
  unfolding made_arc made_mux
  arc_there = (is.arcs.members made_arc).1 (in_flat_map (λ m. mux_arcs device g.wires m.0 m.1) (enumerate_from 0 (muxes_of device g.wires)) (mux_number, made_mux) made_arc
      (entry_to (muxes_of device g.wires) mux_number made_mux mux_is)
      (subst (λ o. In (option_map_or (λ tile. filter_map (λ p. arc_in device g.wires tile mux_number made_mux p.0 p.1) (enumerate_from 0 mux.arcs)) o []) made_arc) (sym n.in_tile)
      (in_filter_map_to (λ p. arc_in device g.wires n.tile mux_number made_mux p.0 p.1) (enumerate_from 0 mux.arcs) (place, arc) made_arc (entry_to mux.arcs place arc n.listed)
      (ap (λ o. option_map (λ s. let made : GraphArc = record { mux = mux_number; place = place; source = s; sink = sink_number; origin = origin_of n.tile; arc = arc } in made) o) source_is))))

  pub arc_is_there : HasArc g number mux place arc
  unfolding made_arc made_mux
  arc_is_there = record {
    found = made_arc;
    listed = arc_there;
    of_mux = made_mux;
    mux_listed = ap (λ ms. slice_get ms mux_number) is.muxes ∙ mux_is;
    same_tile = refl;
    same_mux = refl;
    same_place = refl;
    same_arc = refl;
  }
