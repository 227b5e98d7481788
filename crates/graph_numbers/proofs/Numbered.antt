-- Numbers of muxes and arcs stand for those of the device.
use Rattle.std.proofs.Common.{◌≡◌, ℕ, List, [], map, filter_map, Option, None, Some, option_map, refl, ap, ◌∙◌}
use Rattle.std.specs.Prelude.{slice_get}
use Rattle.std.specs.Option.{option_map_or}
use Rattle.std.specs.List.{enumerate_from}
use Rattle.records.specs.Database.{Arc, Mux}
use Rattle.records.specs.Grid.{Tile, origin_of}
use Rattle.fabric.specs.Wires.{Wire}
use Rattle.fabric.specs.Device.{Device, database_at}
use Rattle.fabric.specs.Graph.{GraphMux, GraphArc}
use Rattle.fabric.specs.GraphOf.{number_in, tile_muxes, muxes_of, arc_in, mux_arcs, arcs_of}
use Rattle.fabric_laws.proofs.Numbered.{entry_is}
use Rattle.graph_lists.specs.ArcLists.{ArcNumbers}
use Rattle.mux_rows.specs.MuxTable.{MuxNumbers}
use Rattle.graph_numbers.specs.Numbers.{mux_in, tile_mux_numbers, mux_numbers, source_in, mux_arc_numbers}
use Rattle.graph_numbers.specs.StandFor.{mux_of, arc_of, arcs_of_known, arc_numbers}
use Rattle.graph_numbers.proofs.Lists.{left_stand, unnumbered, all_stand}

module _ (device : Device) (wires : List Wire) where
  -- ---- muxes

  -- the mux that a sink's number makes
  abbrev made : ℕ → Tile → Mux → Option ℕ → Option GraphMux
  made number tile mux sink = option_map (λ s. let m : GraphMux = record { tile = number; origin = origin_of tile; sink = s; mux = mux } in m) sink

  abbrev numbers : ℕ → ℕ → Option ℕ → Option MuxNumbers
  numbers number place sink = option_map (λ s. let m : MuxNumbers = record { tile = number; place = place; sink = s } in m) sink

  mux_stands : (number : ℕ) (tile : Tile) (place : ℕ) (mux : Mux) (sink : Option ℕ) → slice_get device.grid.tiles number ≡ Some tile → slice_get (database_at device.types tile).muxes place ≡ Some mux
      → (a : MuxNumbers) → numbers number place sink ≡ Some a → (b : GraphMux) × ((mux_of device a ≡ Some b) × (made number tile mux sink ≡ Some b))
  mux_stands number tile place mux None at there a h = absurd (let no : ⊥ = cc in no)
  mux_stands number tile place mux (Some s) at there a h =
      let same : (let m : MuxNumbers = record { tile = number; place = place; sink = s } in m) ≡ a = cc in
      (record { tile = number; origin = origin_of tile; sink = s; mux = mux }, (rw (← same) (rw (at, there) refl), refl))

  mux_gone : (number : ℕ) (tile : Tile) (place : ℕ) (mux : Mux) (sink : Option ℕ) → numbers number place sink ≡ None → made number tile mux sink ≡ None
  mux_gone number tile place mux None h = refl
  mux_gone number tile place mux (Some s) h = absurd (let no : ⊥ = cc in no)

  tile_stands : (number : ℕ) (tile : Tile) → slice_get device.grid.tiles number ≡ Some tile → map (mux_of device) (tile_mux_numbers device wires number tile) ≡ map (λ m. Some m) (tile_muxes device wires number tile)
  tile_stands number tile at =
      let muxes = (database_at device.types tile).muxes in
      let sink = λ (mux : Mux). number_in wires device.profile.rules tile mux.sink in
      left_stand (λ (m : ℕ × Mux). mux_in device wires number tile m.0 m.1) (mux_of device) (λ (m : ℕ × Mux). made number tile m.1 (sink m.1)) (enumerate_from 0 muxes)
      (λ m i. mux_stands number tile m.0 m.1 (sink m.1) at (entry_is muxes m.0 m.1 i))
      (λ m i. mux_gone number tile m.0 m.1 (sink m.1))
      ∙ ap (map (λ m. Some m)) (unnumbered (λ mux. made number tile mux (sink mux)) 0 muxes)

  pub muxes_stand : map (mux_of device) (mux_numbers device wires) ≡ map (λ m. Some m) (muxes_of device wires)
  muxes_stand =
      all_stand (λ (t : ℕ × Tile). tile_mux_numbers device wires t.0 t.1) (mux_of device) (λ (t : ℕ × Tile). tile_muxes device wires t.0 t.1) (enumerate_from 0 device.grid.tiles)
      (λ t i. tile_stands t.0 t.1 (entry_is device.grid.tiles t.0 t.1 i))

  -- ---- arcs

  abbrev arc_made : ℕ → GraphMux → ℕ → Arc → Option ℕ → Option GraphArc
  arc_made number m place arc source = option_map (λ s. let a : GraphArc = record { mux = number; place = place; source = s; sink = m.sink; origin = m.origin; arc = arc } in a) source

  abbrev arc_numbered : ℕ → ℕ → ℕ → Option ℕ → Option ArcNumbers
  arc_numbered number sink place source = option_map (λ s. let a : ArcNumbers = record { mux = number; place = place; source = s; sink = sink } in a) source

  abbrev all : List GraphMux
  all = muxes_of device wires

  arc_stands : (number : ℕ) (m : GraphMux) (place : ℕ) (arc : Arc) (source : Option ℕ) → slice_get all number ≡ Some m → slice_get m.mux.arcs place ≡ Some arc
      → (a : ArcNumbers) → arc_numbered number m.sink place source ≡ Some a → (b : GraphArc) × ((arc_of all a ≡ Some b) × (arc_made number m place arc source ≡ Some b))
  arc_stands number m place arc None at there a h = absurd (let no : ⊥ = cc in no)
  arc_stands number m place arc (Some s) at there a h =
      let same : (let x : ArcNumbers = record { mux = number; place = place; source = s; sink = m.sink } in x) ≡ a = cc in
      (record { mux = number; place = place; source = s; sink = m.sink; origin = m.origin; arc = arc }, (rw (← same) (rw (at, there) refl), refl))

  arc_gone : (number : ℕ) (m : GraphMux) (place : ℕ) (arc : Arc) (source : Option ℕ) → arc_numbered number m.sink place source ≡ None → arc_made number m place arc source ≡ None
  arc_gone number m place arc None h = refl
  arc_gone number m place arc (Some s) h = absurd (let no : ⊥ = cc in no)

  of_tile : (number : ℕ) (m : GraphMux) (o : Option Tile) → slice_get all number ≡ Some m
      → map (arc_of all) (option_map_or (λ tile. mux_arc_numbers device wires tile number m.sink m.mux) o [])
      ≡ map (λ a. Some a) (option_map_or (λ tile. filter_map (λ a. arc_in device wires tile number m a.0 a.1) (enumerate_from 0 m.mux.arcs)) o [])
  of_tile number m None at = refl
  of_tile number m (Some tile) at =
      let source = λ (arc : Arc). number_in wires device.profile.rules tile arc.source in
      left_stand (λ (a : ℕ × Arc). source_in device wires tile number m.sink a.0 a.1) (arc_of all) (λ (a : ℕ × Arc). arc_in device wires tile number m a.0 a.1) (enumerate_from 0 m.mux.arcs)
      (λ a i. arc_stands number m a.0 a.1 (source a.1) at (entry_is m.mux.arcs a.0 a.1 i))
      (λ a i. arc_gone number m a.0 a.1 (source a.1))

  pub arcs_stand : map (arc_of all) (arc_numbers device wires all) ≡ map (λ a. Some a) (arcs_of device wires)
  arcs_stand =
      all_stand (λ (m : ℕ × GraphMux). arcs_of_known device wires m.0 m.1) (arc_of all) (λ (m : ℕ × GraphMux). mux_arcs device wires m.0 m.1) (enumerate_from 0 all)
      (λ m i. of_tile m.0 m.1 (slice_get device.grid.tiles m.1.tile) (entry_is all m.0 m.1 i))
