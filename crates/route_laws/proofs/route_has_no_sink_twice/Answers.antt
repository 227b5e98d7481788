use Rattle.std.proofs.Common.{arith}
use Rattle.path_laws.proofs.Leading.{once}
use Rattle.repair.specs.Routes.{wire_weight, roads_for, InTree}
use Rattle.route_laws.proofs.route_has_no_sink_twice.Goals as goal

pub returns : goal.returns
returns c = λ rims t path pin p. once (roads_for t) (wire_weight rims) (λ a u. omega arith) (InTree t) path pin p
