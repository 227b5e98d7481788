use Rattle.std.proofs.Common.{◌≡◌, drop}
use Rattle.cram_image.specs.Image.{bits}
use Rattle.slice_model.specs.Turns.{slices_fault}
use Rattle.slice_model.proofs.values.first_of_slices.Given as goal

-- the fault of those that are left is that of all
abbrev pub invariant-loop-slice : goal.invariant-loop-slice
invariant-loop-slice g l = slices_fault (g.G.NamedGraph.graph l.graph) (bits l.image) (drop l.slice-index l.slices) ≡ slices_fault (g.G.NamedGraph.graph l.graph) (bits l.image) l.slices
