use Rattle.std.proofs.Common.{ℕ, ◌<◌, get_or}
use Rattle.pin_search.specs.Labels.{label_by, IsTaken}
use Rattle.pin_search.specs.Searches.{AtMost}
use Rattle.pin_search.specs.Fronts.{Turn, MovesTo}
use Rattle.pin_search.proofs.spread.spread_arcs.Given as goal

abbrev pub invariant-loop-a : goal.invariant-loop-a
invariant-loop-a g l = record {
  turn : Turn (g.R.Links.network l.rules) (g.R.PathRules.rules l.rules) l.pin l.w (get_or l.fn.front.labels.items l.fn.w 0) l.front;
  moves : MovesTo l.fn.front l.front;
  arcs : (k : ℕ) → k < l.a-index → IsTaken (g.R.Links.network l.rules) (g.R.PathRules.rules l.rules) (get_or l.ins k 0)
      → AtMost (g.R.PathRules.rules l.rules) l.front.labels.items l.front.best ((g.R.Links.network l.rules).wiring.source (get_or l.ins k 0))
      (label_by (g.R.Links.network l.rules) (g.R.PathRules.rules l.rules) (get_or l.fn.front.labels.items l.fn.w 0) (get_or l.ins k 0));
}
