use Rattle.graph_lists.proofs.Listed.{place_from, place_to, places_rise}
use Rattle.graph_lists.proofs.places_are_those_that_pass.Goals as goal

pub returns-clause-members : goal.returns-clause-members
returns-clause-members g c = λ p xs i. ((λ h. place_from p xs i h), (λ h. place_to p xs i h.0 h.1.0 h.1.1))

pub returns-clause-order : goal.returns-clause-order
returns-clause-order g c = λ p xs. places_rise p xs
