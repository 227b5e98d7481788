use Rattle.words.specs.Members.{In}
use Rattle.paths.specs.Wiring.{roads_of}
use Rattle.path_laws.proofs.Leading.{none_crosses}
use Rattle.path_laws.proofs.no_path_crosses_a_cut.Goals as goal

pub returns : goal.returns
returns c = λ g r tree inside path pin cut p. none_crosses (roads_of g r) (In tree) inside path pin cut p
