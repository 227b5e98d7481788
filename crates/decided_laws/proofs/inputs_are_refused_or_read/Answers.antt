use Rattle.decided_laws.proofs.Inputs as law
use Rattle.decided_laws.proofs.inputs_are_refused_or_read.Goals as goal

pub returns : goal.returns
returns c = law.refused_or_read
