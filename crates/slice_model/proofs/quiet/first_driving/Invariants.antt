use Rattle.std.proofs.Common.{◌≡◌, drop}
use Rattle.cells.specs.Faults.{unnamed_fault}
use Rattle.cram_image.specs.Image.{bits}
use Rattle.cell_readings.specs.First.{first_of}
use Rattle.slice_model.proofs.quiet.first_driving.Given as goal

-- the fault of those that are left is that of all
abbrev pub invariant-loop-site : goal.invariant-loop-site
invariant-loop-site g l = first_of (unnamed_fault (g.G.NamedGraph.graph l.graph) (bits l.image)) (drop l.site-index l.sites) ≡ first_of (unnamed_fault (g.G.NamedGraph.graph l.graph) (bits l.image)) l.sites
