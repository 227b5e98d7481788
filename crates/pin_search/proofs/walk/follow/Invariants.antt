use Rattle.pin_search.specs.Labels.{first_in, weight_in}
use Rattle.pin_search.proofs.Walking.{HasOnward, Rest}
use Rattle.pin_search.proofs.walk.follow.Given as goal

abbrev pub invariant-walk : goal.invariant-walk
invariant-walk g l = record {
  onward : HasOnward (g.R.Links.network l.rules) (g.R.PathRules.rules l.rules) l.front.labels.items l.label;
  rest : Rest (g.R.Links.network l.rules) l.front.labels.items (first_in l.front.best) l.arcs.items l.label;
}

abbrev pub decreases-walk : goal.decreases-walk
decreases-walk g l = weight_in l.label
