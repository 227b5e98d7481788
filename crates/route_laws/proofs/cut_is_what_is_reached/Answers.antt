use Rattle.std.proofs.Common.{[]}
use Rattle.path_laws.proofs.Search.{least_is_reached, reached_is_least}
use Rattle.repair.specs.Routes.{wire_weight, roads_for, InTree}
use Rattle.route_laws.proofs.Routes.{tree, wires, finite}
use Rattle.route_laws.proofs.cut_is_what_is_reached.Goals as goal

pub returns : goal.returns
returns c = λ t inside pin. (
  (λ l. (least_is_reached (roads_for t) (wire_weight []) (InTree t) (tree t) (wires t) t.now.graph.arcs (finite t []) inside pin l, l.cut.pin_out)),
  (λ h. reached_is_least (roads_for t) (wire_weight []) (InTree t) (tree t) (wires t) t.now.graph.arcs (finite t []) inside pin h.0 h.1),
)
