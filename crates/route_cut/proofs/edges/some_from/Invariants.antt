use Rattle.std.proofs.Common.{ℕ, ◌<◌, get_or}
use Rattle.words.specs.Members.{In}
use Rattle.route_cut.proofs.edges.some_from.Given as goal

abbrev pub invariant-loop-a : goal.invariant-loop-a
invariant-loop-a g l = (k : ℕ) → k < l.a-index → In l.inside ((g.R.Links.network l.rules).wiring.source (get_or l.arcs k 0)) → ⊥
