use Rattle.path_laws.proofs.Leading.{none_crosses}
use Rattle.repair.specs.Routes.{roads_for, InTree}
use Rattle.route_laws.proofs.no_route_crosses_a_cut.Goals as goal

pub returns : goal.returns
returns c = λ t inside path pin cut p. none_crosses (roads_for t) (InTree t) inside path pin cut p
