use Rattle.std.proofs.Common.{ℕ, ◌<◌, get_or}
use Rattle.route_cut.specs.Checked.{IsShutEdge}
use Rattle.route_cut.proofs.edges.rim_is_shut.Given as goal

abbrev pub invariant-loop-w : goal.invariant-loop-w
invariant-loop-w g l = (k : ℕ) → k < l.w-index → IsShutEdge (g.R.Links.network l.rules) (g.R.PathRules.rules l.rules) l.inside (get_or l.rim k 0)
