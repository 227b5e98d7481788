use Rattle.std.proofs.Common.{◌≡◌, map, take}
use Rattle.cram_image.specs.Image.{bits}
use Rattle.chosen_links.specs.Fitting.{fits_in}
use Rattle.chosen_links.proofs.fitting.fitting.Given as goal

-- the arcs so far
abbrev pub invariant-loop-a : goal.invariant-loop-a
invariant-loop-a g l = l.fitting.items ≡ map (fits_in (bits l.image)) (take l.a (g.G.NamedGraph.graph l.graph).arcs)
