use Rattle.hardening_examples.proofs.Hardened.{crossed_sound}
use Rattle.hardening_examples.proofs.crossed_is_a_sound_job.Goals as goal

pub returns : goal.returns
returns c = crossed_sound
