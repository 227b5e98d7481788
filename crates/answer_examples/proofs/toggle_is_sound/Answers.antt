use Rattle.std.proofs.Common.{refl, [], ◌∷◌}
use Rattle.upset_examples.proofs.Conditions.{toggle_safe}
use Rattle.attempts.specs.Attempts.{AttemptComplete, Routed}
use Rattle.attempt_laws.proofs.SafeDesign.{safe_design_stays}
use Rattle.attempt_examples.specs.SafeToggle.{toggle_job}
use Rattle.answer_examples.proofs.Toggle as law
use Rattle.answer_examples.proofs.toggle_is_sound.Goals as goal

pub returns-clause-sound : goal.returns-clause-sound
returns-clause-sound c = law.sound

pub returns-clause-reached : goal.returns-clause-reached
returns-clause-reached c = law.reached_from (AttemptComplete ∷ []) (Routed toggle_job.design 0) (safe_design_stays toggle_job refl toggle_safe)
