use Rattle.std.proofs.Common.{◌≡◌, Bool, filter, map, take}
use Rattle.fabric.specs.Graph.{GraphArc}
use Rattle.fabric.specs.Links.{link_of}
use Rattle.chosen_links.proofs.linking.arc_links.Given as goal

-- the links of the arcs so far
abbrev pub invariant-loop-a : goal.invariant-loop-a
invariant-loop-a g l = (test : GraphArc → Bool) → l.chosen ≡ map test (g.G.NamedGraph.graph l.graph).arcs
    → l.links.items ≡ map link_of (filter test (take l.a (g.G.NamedGraph.graph l.graph).arcs))
