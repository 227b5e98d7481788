use Rattle.std.proofs.Common.{◌≡◌, ◌++◌, drop, map}
use Rattle.cells.specs.Resolved.{table_cell}
use Rattle.cram_image.specs.Image.{bits}
use Rattle.slice_model.proofs.tables.table_cells.Given as goal

-- the tables so far and those that are left are all
abbrev pub invariant-loop-table : goal.invariant-loop-table
invariant-loop-table g l = l.cells.items ++ map (table_cell (g.G.NamedGraph.graph l.graph) (g.G.RoutingGraph.device l.graph).profile.rules (bits l.image) l.site) (drop l.table-index l.tables) ≡ map (table_cell (g.G.NamedGraph.graph l.graph) (g.G.RoutingGraph.device l.graph).profile.rules (bits l.image) l.site) l.tables
