use Rattle.run_laws.proofs.Hardened.{run_hardened}
use Rattle.run_laws.proofs.hardening_ends_hardened.Goals as goal

pub returns : goal.returns
returns c = run_hardened
