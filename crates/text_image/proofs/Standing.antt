-- The graph of a device stands in its tiles.
use Rattle.std.proofs.Common.{◌≡◌, ℕ, ◌&&◌, List, length, Some, sym, ap, ◌∙◌}
use Rattle.std.specs.Prelude.{slice_get, ◌==◌}
use Rattle.std.specs.Str.{bytes_eq}
use Rattle.std.proofs.lemmas.Bool.{and_parts, eqb-true}
use Rattle.std.proofs.lemmas.List.{length-map}
use Rattle.records.specs.Grid.{Tile, origin_of}
use Rattle.fabric.specs.Device.{Device}
use Rattle.fabric.specs.Graph.{GraphMux, GraphArc, Graph}
use Rattle.fabric.specs.GraphOf.{settings_in, IsGraph}
use Rattle.fabric.specs.Image.{mux_named, arc_named}
use Rattle.fabric_laws.proofs.Graphs.{some_same}
use Rattle.fabric_laws.proofs.Standing.{arc_stands}
use Rattle.fabric_laws.proofs.Members.{find_from}
use Rattle.fabric_laws.proofs.Numbered.{at_position}
use Rattle.named_graph.specs.Standing.{StandsInTiles}

pub graph_stands : (device : Device) (g : Graph) → IsGraph device g → StandsInTiles g
graph_stands device g is = record { settings = lengths; origins = origins }
  where
    lengths : length g.settings ≡ length g.grid.tiles
    lengths = ap (λ s. length s) is.settings ∙ (length-map device.grid.tiles (settings_in device) ∙ ap (λ grid. length grid.tiles) (sym is.grid))

    origins : (t : ℕ) (tile : Tile) (sink source : List ℕ) (m : ℕ) (a : GraphArc) → slice_get g.grid.tiles t ≡ Some tile → mux_named g t sink ≡ Some m → arc_named g m source ≡ Some a → a.origin ≡ origin_of tile
    origins t tile sink source m a at named found =
        let arc = find_from (λ x. (x.mux == m) && bytes_eq x.arc.source source) g.arcs a found in
        let stands = arc_stands device g is a arc.0 in
        let mux = at_position (λ x. (x.tile == t) && bytes_eq x.mux.sink sink) g.muxes m named in
        let of_mux : a.mux ≡ m = eqb-true a.mux m (and_parts (a.mux == m) (bytes_eq a.arc.source source) arc.1).0 in
        let same_mux : stands.mux ≡ mux.0 = some_same (sym stands.of_mux ∙ (ap (λ n. slice_get g.muxes n) of_mux ∙ mux.1.0)) in
        let of_tile : mux.0.tile ≡ t = eqb-true mux.0.tile t (and_parts (mux.0.tile == t) (bytes_eq mux.0.mux.sink sink) mux.1.1).0 in
        let same_number : stands.mux.tile ≡ t = ap (λ (x : GraphMux). x.tile) same_mux ∙ of_tile in
        let same_tile : stands.tile ≡ tile = some_same (sym stands.in_tile ∙ (ap (λ n. slice_get device.grid.tiles n) same_number ∙ (ap (λ grid. slice_get grid.tiles t) (sym is.grid) ∙ at))) in
        stands.origin ∙ ap origin_of same_tile
