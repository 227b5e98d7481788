use Rattle.std.proofs.Common.{ℕ, ◌<◌, ◌≤◌, ◌-◌, length, get_or}
use Rattle.net_links.specs.Nets.{rules_of}
use Rattle.route_cut.specs.Checked.{IsKept}
use Rattle.net_search.specs.Gathering.{AllIn, Gathers}
use Rattle.net_search.proofs.gather.close.Given as goal

abbrev pub invariant-loop-count : goal.invariant-loop-count
invariant-loop-count g l = record {
  gathers : Gathers (g.R.Links.network l.rules) (g.R.PathRules.rules l.rules) l.reach;
  roots : AllIn (g.R.PathRules.rules l.rules).roots l.reach.inside.items;
  within : l.count ≤ length l.reach.inside.items;
  kept : (k : ℕ) → k < l.count → IsKept (g.R.Links.network l.rules).wiring (rules_of (g.R.Links.network l.rules) (g.R.PathRules.rules l.rules)) l.reach.inside.items l.reach.edge.items (get_or l.reach.inside.items k 0);
}

abbrev pub decreases-loop-count : goal.decreases-loop-count
decreases-loop-count g l = (g.R.Links.network l.rules).wiring.wires - l.count
