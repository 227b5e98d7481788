use Rattle.check_laws.proofs.Unrefused.{unrefused}
use Rattle.check_laws.proofs.unrefused_is_accepted.Goals as goal

pub returns : goal.returns
returns c = λ files inputs none. (let a = unrefused files inputs none in record { design = a.0; graph = a.1.0; cells = a.1.1.0; is = a.1.1.1 })
