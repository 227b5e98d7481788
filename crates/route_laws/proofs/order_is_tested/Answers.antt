use Rattle.route_laws.proofs.Starts.{order_law}
use Rattle.route_laws.proofs.order_is_tested.Goals as goal

pub returns : goal.returns
returns c = order_law
