use Rattle.std.proofs.Common.{◌≡◌, ◌++◌, drop, map}
use Rattle.cells.specs.Resolved.{register_cell}
use Rattle.cram_image.specs.Image.{bits}
use Rattle.slice_model.proofs.registers.register_cells.Given as goal

-- the registers so far and those that are left are all
abbrev pub invariant-loop-register : goal.invariant-loop-register
invariant-loop-register g l = l.cells.items ++ map (register_cell (g.G.NamedGraph.graph l.graph) (g.G.RoutingGraph.device l.graph).profile.rules (bits l.image) l.site) (drop l.register-index l.registers) ≡ map (register_cell (g.G.NamedGraph.graph l.graph) (g.G.RoutingGraph.device l.graph).profile.rules (bits l.image) l.site) l.registers
