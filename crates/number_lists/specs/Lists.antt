-- The lists of a graph, and the numbers that stand for it. (Our own.)
use Rattle.std.specs.Prelude.{◌≡◌, ◌==◌, ℕ, List, map, Some}
use Rattle.graph_lists.specs.Places.{places}
use Rattle.graph_lists.specs.ArcLists.{numbers_of}
use Rattle.fabric.specs.Device.{Device}
use Rattle.fabric.specs.Graph.{Graph}
use Rattle.graph_numbers.specs.StandFor.{mux_of, arc_of}
use Rattle.graph_numbers.specs.Graphs.{GraphNumbers}

-- the muxes of a tile
abbrev pub muxes_of_tile : Graph → ℕ → List ℕ
muxes_of_tile g t = places (λ m. m.tile == t) g.muxes

-- Numbers stand for the muxes and arcs of a graph, one for each, in order; they are of the tiles and wires that the graph
-- says.
pub record KeepsNumbers (device : Device) (n : GraphNumbers) (g : Graph) : Type 0 where
  pub muxes : map (mux_of device) n.muxes ≡ map (λ m. Some m) g.muxes
  pub arcs : map (arc_of g.muxes) n.arcs ≡ map (λ a. Some a) g.arcs
  pub numbers : map numbers_of g.arcs ≡ n.arcs
  pub tiles : map (λ m. m.tile) g.muxes ≡ map (λ m. m.tile) n.muxes
  pub sinks : map (λ m. m.sink) g.muxes ≡ map (λ m. m.sink) n.muxes
