use Rattle.std.proofs.Common.{ℕ, ◌<◌, get_or}
use Rattle.words.specs.Members.{In}
use Rattle.net_search.specs.Gathering.{Gathers, Grows}
use Rattle.net_search.proofs.spread.spread_links.Given as goal

abbrev pub invariant-loop-x : goal.invariant-loop-x
invariant-loop-x g l = record {
  gathers : Gathers (g.R.Links.network l.rules) (g.R.PathRules.rules l.rules) l.reach;
  inside : Grows l.fn.reach.inside.items l.reach.inside.items;
  edge : Grows l.fn.reach.edge.items l.reach.edge.items;
  links : (k : ℕ) → k < l.x-index → In l.reach.inside.items (get_or l.next k 0);
}
