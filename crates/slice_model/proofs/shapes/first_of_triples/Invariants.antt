use Rattle.std.proofs.Common.{◌≡◌, drop}
use Rattle.cells.specs.Faults.{shape_fault}
use Rattle.cell_readings.specs.First.{first_of}
use Rattle.slice_model.proofs.shapes.first_of_triples.Given as goal

-- the fault of those that are left is that of all
abbrev pub invariant-loop-triple : goal.invariant-loop-triple
invariant-loop-triple g l = first_of (shape_fault (g.G.NamedGraph.graph l.graph) l.kinds l.names) (drop l.triple-index l.triples) ≡ first_of (shape_fault (g.G.NamedGraph.graph l.graph) l.kinds l.names) l.triples
