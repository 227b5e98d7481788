use Rattle.fabric_laws.proofs.Orders.{arc_total}
use Rattle.path_laws.proofs.Leading.{one_path}
use Rattle.repair.specs.Routes.{wire_weight, roads_for, InTree}
use Rattle.route_laws.proofs.Routes.{same_arc}
use Rattle.route_laws.proofs.one_route.Goals as goal

pub returns : goal.returns
returns c = λ device rims t path other pin is p q. one_path (roads_for t) (same_arc device t is) arc_total (wire_weight rims) (InTree t) path other pin p q
