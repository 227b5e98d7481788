use Rattle.route_laws.proofs.Usable.{is_usable}
use Rattle.route_laws.proofs.usable_is_decided.Goals as goal

pub returns : goal.returns
returns c = λ t a. is_usable t a
