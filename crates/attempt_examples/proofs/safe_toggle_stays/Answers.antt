use Rattle.std.proofs.Common.{refl}
use Rattle.upset_examples.proofs.Conditions.{toggle_safe}
use Rattle.attempt_laws.proofs.SafeDesign.{safe_design_stays}
use Rattle.attempt_examples.specs.SafeToggle.{toggle_job}
use Rattle.attempt_examples.proofs.safe_toggle_stays.Goals as goal

pub returns : goal.returns
returns c = safe_design_stays toggle_job refl toggle_safe
