use Rattle.std.proofs.Common.{◌≡◌, ◌++◌, flat_map, take}
use Rattle.patterns.specs.Bits.{bits_of_list}
use Rattle.cram_image.specs.Image.{bits}
use Rattle.upset_effect.specs.Passing.{passes, source_by}
use Rattle.upset_effect.proofs.sources.add_arcs.Given as goal

-- the sources so far
abbrev pub invariant-loop-a : goal.invariant-loop-a
invariant-loop-a g l = l.sources.items ≡ l.initial.sources.items ++ flat_map (source_by (g.G.NamedGraph.graph l.graph) (passes (bits l.image) (bits_of_list l.flips) l.rule)) (take l.a-index l.arcs)
