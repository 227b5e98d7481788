use Rattle.chosen_arcs.proofs.Placing.{members, places_rise}
use Rattle.chosen_arcs.proofs.laws.places_are_in_order.Goals as goal

pub returns-clause-order : goal.returns-clause-order
returns-clause-order g c = λ test xs. places_rise test 0 xs

pub returns-clause-members : goal.returns-clause-members
returns-clause-members g c = λ test xs k. members test xs k
