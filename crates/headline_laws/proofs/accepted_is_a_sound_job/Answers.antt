use Rattle.headline_laws.proofs.Accepted.{accepted_sound_job}
use Rattle.headline_laws.proofs.accepted_is_a_sound_job.Goals as goal

pub returns : goal.returns
returns c = λ files inputs a h. accepted_sound_job files inputs h a.design a.graph a.cells a.is
