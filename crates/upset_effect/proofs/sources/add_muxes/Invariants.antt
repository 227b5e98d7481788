use Rattle.std.proofs.Common.{◌≡◌, ◌++◌, flat_map, take}
use Rattle.patterns.specs.Bits.{bits_of_list}
use Rattle.cram_image.specs.Image.{bits}
use Rattle.upset_effect.specs.Passing.{mux_sources}
use Rattle.upset_effect.proofs.sources.add_muxes.Given as goal

-- the sources so far
abbrev pub invariant-loop-m : goal.invariant-loop-m
invariant-loop-m g l = l.sources.items ≡ l.initial.sources.items ++ flat_map (mux_sources (g.G.NamedGraph.graph l.graph) (bits l.image) (bits_of_list l.flips)) (take l.m-index l.muxes)
