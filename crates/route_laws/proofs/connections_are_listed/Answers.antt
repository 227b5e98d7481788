use Rattle.route_laws.proofs.Parts.{connections_law}
use Rattle.route_laws.proofs.connections_are_listed.Goals as goal

pub returns : goal.returns
returns c = connections_law
