use Rattle.answer_laws.proofs.Candidates as law
use Rattle.answer_laws.proofs.first_candidate_is_decided.Goals as goal

pub returns : goal.returns
returns c = law.first_or_none
