use Rattle.search_laws.proofs.Made.{made_numbers}
use Rattle.search_laws.proofs.Standing.{meets}
use Rattle.search_laws.proofs.turns_are_numbered.Goals as goal

pub returns-clause-some : goal.returns-clause-some
returns-clause-some c = λ device t rims is. made_numbers t rims device is

pub returns-clause-meet : goal.returns-clause-meet
returns-clause-meet c = meets
