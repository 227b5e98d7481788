use Rattle.std.proofs.Common.{ℕ, ◌<◌, get_or}
use Rattle.net_links.specs.Nets.{rules_of}
use Rattle.route_cut.specs.Checked.{StaysIn}
use Rattle.net_search.specs.Gathering.{Gathers, Grows}
use Rattle.net_search.proofs.spread.spread_arcs.Given as goal

abbrev pub invariant-loop-a : goal.invariant-loop-a
invariant-loop-a g l = record {
  gathers : Gathers (g.R.Links.network l.rules) (g.R.PathRules.rules l.rules) l.reach;
  inside : Grows l.fn.reach.inside.items l.reach.inside.items;
  edge : Grows l.fn.reach.edge.items l.reach.edge.items;
  stay : (k : ℕ) → k < l.a-index → StaysIn (g.R.Links.network l.rules).wiring (rules_of (g.R.Links.network l.rules) (g.R.PathRules.rules l.rules)) l.reach.inside.items l.reach.edge.items (get_or l.outs k 0);
}
