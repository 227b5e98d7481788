use Rattle.run_end_laws.proofs.Refused.{unlike}
use Rattle.run_end_laws.proofs.other_bytes_are_refused.Goals as goal

pub returns : goal.returns
returns c = unlike
