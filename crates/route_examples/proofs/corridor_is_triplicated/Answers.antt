use Rattle.route_examples.proofs.CorridorMeets.{corridor_formed, corridor_triplicated}
use Rattle.route_examples.proofs.corridor_is_triplicated.Goals as goal

pub returns-clause-formed : goal.returns-clause-formed
returns-clause-formed c = corridor_formed

pub returns-clause-triplicated : goal.returns-clause-triplicated
returns-clause-triplicated c = corridor_triplicated
