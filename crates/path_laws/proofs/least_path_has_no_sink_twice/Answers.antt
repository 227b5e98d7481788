use Rattle.std.proofs.Common.{arith}
use Rattle.words.specs.Members.{In}
use Rattle.paths.specs.Wiring.{roads_of}
use Rattle.path_laws.proofs.Leading.{once}
use Rattle.path_laws.proofs.least_path_has_no_sink_twice.Goals as goal

pub returns : goal.returns
returns c = λ g r tree path pin wiring rules p. once (roads_of g r) r.weight (λ a m. let h = rules.weights (g.sink a) (wiring.sinks a m.0) in omega arith) (In tree) path pin p
