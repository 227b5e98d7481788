use Rattle.route_examples.proofs.Uncrossed.{first, second, light_up, other_track, as_light}
use Rattle.route_examples.proofs.first_track_is_taken.Goals as goal

pub returns-clause-first : goal.returns-clause-first
returns-clause-first c = first

pub returns-clause-second : goal.returns-clause-second
returns-clause-second c = second

pub returns-clause-weight : goal.returns-clause-weight
returns-clause-weight c = light_up

pub returns-clause-other : goal.returns-clause-other
returns-clause-other c = other_track

pub returns-clause-as_light : goal.returns-clause-as_light
returns-clause-as_light c = as_light
