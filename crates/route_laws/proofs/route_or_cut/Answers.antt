use Rattle.path_laws.proofs.Leading.{none_crosses}
use Rattle.path_laws.proofs.Search.{path_or_cut}
use Rattle.repair.specs.Routes.{wire_weight, roads_for, InTree}
use Rattle.route_laws.proofs.Routes.{tree, wires, finite}
use Rattle.route_laws.proofs.route_or_cut.Goals as goal

pub returns-clause-one : goal.returns-clause-one
returns-clause-one c = λ rims t pin. path_or_cut (roads_for t) (wire_weight rims) (InTree t) (tree t) (wires t) t.now.graph.arcs (finite t rims) pin

pub returns-clause-not_both : goal.returns-clause-not_both
returns-clause-not_both c = λ rims t path inside rim pin p b. none_crosses (roads_for t) (InTree t) inside path pin b.least.cut p.is_path
