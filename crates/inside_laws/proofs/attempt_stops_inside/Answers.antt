use Rattle.inside_laws.proofs.Stopping as law
use Rattle.inside_laws.proofs.attempt_stops_inside.Goals as goal

pub returns-clause-blocked : goal.returns-clause-blocked
returns-clause-blocked c = law.blocked_stops

pub returns-clause-complete : goal.returns-clause-complete
returns-clause-complete c = law.complete_ends
