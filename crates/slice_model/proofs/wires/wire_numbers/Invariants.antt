use Rattle.std.proofs.Common.{◌≡◌, ◌++◌, Some, drop, map}
use Rattle.std.specs.Prelude.{slice_get}
use Rattle.records.specs.Grid.{Tile}
use Rattle.cells.specs.Takes.{wire_number}
use Rattle.slice_model.proofs.wires.wire_numbers.Given as goal

-- the wires so far and those that are left are all
abbrev pub invariant-loop-name : goal.invariant-loop-name
invariant-loop-name g l = (tile : Tile) → slice_get (g.G.NamedGraph.graph l.graph).grid.tiles l.t ≡ Some tile
    → l.wires.items ++ map (wire_number (g.G.NamedGraph.graph l.graph) (g.G.RoutingGraph.device l.graph).profile.rules tile) (drop l.name-index l.names) ≡ map (wire_number (g.G.NamedGraph.graph l.graph) (g.G.RoutingGraph.device l.graph).profile.rules tile) l.names
