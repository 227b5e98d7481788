use Rattle.search_laws.proofs.Roads as law
use Rattle.search_laws.proofs.path_by_number_is_the_route.Goals as goal

pub returns-clause-same : goal.returns-clause-same
returns-clause-same c = law.path_is_route

pub returns-clause-arcs : goal.returns-clause-arcs
returns-clause-arcs c = law.path_has_arcs

pub returns-clause-numbers : goal.returns-clause-numbers
returns-clause-numbers c = law.route_has_numbers
