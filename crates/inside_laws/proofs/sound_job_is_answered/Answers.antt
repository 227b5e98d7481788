use Rattle.inside_laws.proofs.Answered as law
use Rattle.inside_laws.proofs.sound_job_is_answered.Goals as goal

pub returns : goal.returns
returns c = law.sound_answered
