use Rattle.std.proofs.Common.{ℕ, ◌<◌, get_or}
use Rattle.words.specs.Members.{In}
use Rattle.net_search.specs.Gathering.{Gathers}
use Rattle.net_search.proofs.gather.begin.Given as goal

abbrev pub invariant-loop-w : goal.invariant-loop-w
invariant-loop-w g l = record {
  gathers : Gathers (g.R.Links.network l.rules) (g.R.PathRules.rules l.rules) l.reach;
  roots : (k : ℕ) → k < l.w-index → In l.reach.inside.items (get_or l.roots k 0);
}
