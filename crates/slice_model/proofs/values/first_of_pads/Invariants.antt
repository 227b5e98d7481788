use Rattle.std.proofs.Common.{◌≡◌, drop}
use Rattle.cram_image.specs.Image.{bits}
use Rattle.slice_model.specs.Turns.{pads_fault}
use Rattle.slice_model.proofs.values.first_of_pads.Given as goal

-- the fault of those that are left is that of all
abbrev pub invariant-loop-pad : goal.invariant-loop-pad
invariant-loop-pad g l = pads_fault (g.G.NamedGraph.graph l.graph) (bits l.image) l.names (drop l.pad-index l.pads) ≡ pads_fault (g.G.NamedGraph.graph l.graph) (bits l.image) l.names l.pads
