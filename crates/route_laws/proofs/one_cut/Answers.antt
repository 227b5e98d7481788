use Rattle.path_laws.proofs.Search.{one_cut}
use Rattle.repair.specs.Routes.{roads_for, InTree}
use Rattle.route_laws.proofs.one_cut.Goals as goal

pub returns : goal.returns
returns c = λ t inside rim other edge pin p q. one_cut (roads_for t) (InTree t) inside rim other edge pin p q
