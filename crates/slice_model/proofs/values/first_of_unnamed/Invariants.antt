use Rattle.std.proofs.Common.{◌≡◌, drop}
use Rattle.cram_image.specs.Image.{bits}
use Rattle.slice_model.specs.Turns.{modes_fault}
use Rattle.slice_model.proofs.values.first_of_unnamed.Given as goal

-- the fault of those that are left is that of all
abbrev pub invariant-loop-site : goal.invariant-loop-site
invariant-loop-site g l = modes_fault (g.G.NamedGraph.graph l.graph) (bits l.image) (drop l.site-index l.sites) ≡ modes_fault (g.G.NamedGraph.graph l.graph) (bits l.image) l.sites
