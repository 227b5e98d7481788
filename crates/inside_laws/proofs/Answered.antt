-- A sound job is answered.
use Rattle.std.proofs.Common.{◌<◌}
use Rattle.repair.specs.Layouts.{configured}
use Rattle.attempts.specs.Jobs.{Job}
use Rattle.attempts.specs.Attempts.{Answer, IsAnswer}
use Rattle.formed_laws.proofs.Formed.{read_well_formed}
use Rattle.headline_laws.specs.Sound.{IsSoundJob}
use Rattle.answer_laws.proofs.Runs.{some_answer}

pub sound_answered : (job : Job) → IsSoundJob job → 0 < job.rounds → (a : Answer) × IsAnswer job a
sound_answered job sound h = some_answer job (read_well_formed job.device (configured job.design) sound.read).outputs h
