use Rattle.std.proofs.Common.{◌≡◌, ℕ, ◌<◌, length, map, take, get_or, vec_len}
use Rattle.patterns.specs.Bits.{Bits}
use Rattle.chosen_arcs.specs.Places.{IsMost}
use Rattle.chosen_links.specs.Fitting.{bits_count, fits_in, fits_of_mux}
use Rattle.chosen_links.proofs.most.most_bits.Given as goal

-- the most of the arcs so far
abbrev pub invariant-loop-a : goal.invariant-loop-a
invariant-loop-a g l = record {
  long : vec_len l.most ≡ length (g.G.NamedGraph.graph l.graph).muxes;
  most : (image : Bits) → l.fitting ≡ map (fits_in image) (g.G.NamedGraph.graph l.graph).arcs → (m : ℕ) → m < length (g.G.NamedGraph.graph l.graph).muxes
      → IsMost (fits_of_mux image m) bits_count (take l.a (g.G.NamedGraph.graph l.graph).arcs) (get_or l.most.items m 0);
}
