use Rattle.std.proofs.Common.{◌≡◌, ◌<◌, ℕ, false, get_or}
use Rattle.patterns.specs.Bits.{bits_of_list}
use Rattle.upset.specs.After.{is_affected}
use Rattle.upset_effect.proofs.decided.is_driven.Given as goal

-- none of the muxes so far is affected
abbrev pub invariant-loop-m : goal.invariant-loop-m
invariant-loop-m g l = (k : ℕ) → k < l.m-index → is_affected (g.G.NamedGraph.graph l.graph) (bits_of_list l.flips) (get_or l.m-items k 0) ≡ false
