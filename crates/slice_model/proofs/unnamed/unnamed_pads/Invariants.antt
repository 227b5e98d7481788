use Rattle.std.proofs.Common.{◌≡◌, ◌++◌, drop}
use Rattle.cells.specs.Sites.{unnamed_pads}
use Rattle.slice_model.specs.Unnamed.{unnamed_in}
use Rattle.slice_model.proofs.unnamed.unnamed_pads.Given as goal

-- the sites so far and those of the tiles that are left are all
abbrev pub invariant-loop-n : goal.invariant-loop-n
invariant-loop-n g l = l.sites.items ++ unnamed_in l.profile l.names l.n (drop l.n (g.G.NamedGraph.graph l.graph).grid.tiles) ≡ unnamed_pads (g.G.NamedGraph.graph l.graph) l.profile l.names
