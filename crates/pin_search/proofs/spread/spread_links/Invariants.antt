use Rattle.std.proofs.Common.{ℕ, ◌<◌, get_or}
use Rattle.pin_search.specs.Searches.{AtMost}
use Rattle.pin_search.specs.Fronts.{Turn, MovesTo}
use Rattle.pin_search.proofs.spread.spread_links.Given as goal

abbrev pub invariant-loop-x : goal.invariant-loop-x
invariant-loop-x g l = record {
  turn : Turn (g.R.Links.network l.rules) (g.R.PathRules.rules l.rules) l.pin l.w (get_or l.fn.front.labels.items l.fn.w 0) l.front;
  moves : MovesTo l.fn.front l.front;
  links : (k : ℕ) → k < l.x-index → AtMost (g.R.PathRules.rules l.rules) l.front.labels.items l.front.best (get_or l.drivers k 0) (get_or l.fn.front.labels.items l.fn.w 0);
}
