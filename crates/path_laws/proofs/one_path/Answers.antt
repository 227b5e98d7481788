use Rattle.std.specs.Cmp.{nat_cmp_total}
use Rattle.std.specs.FinMap.{nat_cmp-IsAntisymmetric}
use Rattle.words.specs.Members.{In}
use Rattle.paths.specs.Wiring.{roads_of}
use Rattle.path_laws.proofs.Leading.{one_path}
use Rattle.path_laws.proofs.one_path.Goals as goal

pub returns : goal.returns
returns c = λ g r tree path other pin p q. one_path (roads_of g r) (λ a b m n e. nat_cmp-IsAntisymmetric a b e) nat_cmp_total r.weight (In tree) path other pin p q
