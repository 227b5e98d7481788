use Rattle.words.specs.Members.{In}
use Rattle.paths.specs.Wiring.{roads_of}
use Rattle.path_laws.proofs.Search.{one_cut}
use Rattle.path_laws.proofs.one_least_cut.Goals as goal

pub returns : goal.returns
returns c = λ g r tree inside rim other edge pin p q. one_cut (roads_of g r) (In tree) inside rim other edge pin p q
