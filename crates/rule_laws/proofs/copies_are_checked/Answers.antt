use Rattle.rule_laws.proofs.Checked as law
use Rattle.rule_laws.proofs.copies_are_checked.Goals as goal

pub returns-clause-masks : goal.returns-clause-masks
returns-clause-masks c = law.masks_are

pub returns-clause-copies : goal.returns-clause-copies
returns-clause-copies c = law.copies_are

pub returns-clause-outputs : goal.returns-clause-outputs
returns-clause-outputs c = law.outputs_are
