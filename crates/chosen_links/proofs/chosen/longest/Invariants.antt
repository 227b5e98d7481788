use Rattle.std.proofs.Common.{◌≡◌, map, take}
use Rattle.fabric.specs.Links.{is_chosen}
use Rattle.patterns.specs.Bits.{Bits}
use Rattle.chosen_links.specs.Fitting.{AreMost, fits_in}
use Rattle.chosen_links.proofs.chosen.longest.Given as goal

-- the arcs so far
abbrev pub invariant-loop-a : goal.invariant-loop-a
invariant-loop-a g l = (image : Bits) → l.fitting ≡ map (fits_in image) (g.G.NamedGraph.graph l.graph).arcs → AreMost (g.G.NamedGraph.graph l.graph) image l.most
    → l.chosen.items ≡ map (is_chosen (g.G.NamedGraph.graph l.graph) image) (take l.a (g.G.NamedGraph.graph l.graph).arcs)
