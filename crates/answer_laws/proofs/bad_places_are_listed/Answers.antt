use Rattle.answer_laws.proofs.BadPlaces as law
use Rattle.answer_laws.proofs.bad_places_are_listed.Goals as goal

pub returns-clause-some : goal.returns-clause-some
returns-clause-some c = law.some_bad_places

pub returns-clause-empty : goal.returns-clause-empty
returns-clause-empty c = law.empty_where_safe
