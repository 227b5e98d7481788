use Rattle.std.proofs.Common.{take}
use Rattle.cram_image.specs.Image.{bits}
use Rattle.chosen_arcs.specs.Places.{IsMost}
use Rattle.upset_effect.specs.Passing.{bits_at, fits_at}
use Rattle.upset_effect.proofs.rule.longest_fit.Given as goal

-- the most bits so far
abbrev pub invariant-loop-a : goal.invariant-loop-a
invariant-loop-a g l = IsMost (fits_at (g.G.NamedGraph.graph l.graph) (bits l.image)) (bits_at (g.G.NamedGraph.graph l.graph)) (take l.a-index l.a-items) l.longest
