use Rattle.pin_search.specs.Searches.{work}
use Rattle.pin_search.specs.Fronts.{Searches}
use Rattle.pin_search.proofs.search.settle.Given as goal

abbrev pub invariant-turns : goal.invariant-turns
invariant-turns g l = Searches (g.R.Links.network l.rules) (g.R.PathRules.rules l.rules) l.pin (g.R.Links.network l.rules).wiring.wires l.front

abbrev pub decreases-turns : goal.decreases-turns
decreases-turns g l = work l.front.labels.items l.front.queue
