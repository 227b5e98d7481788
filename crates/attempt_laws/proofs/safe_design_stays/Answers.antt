use Rattle.attempt_laws.proofs.SafeDesign.{safe_design_stays}
use Rattle.attempt_laws.proofs.safe_design_stays.Goals as goal

pub returns : goal.returns
returns c = safe_design_stays
