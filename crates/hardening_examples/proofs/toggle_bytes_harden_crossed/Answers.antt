use Rattle.hardening_examples.proofs.Written.{crossed_may_be_hardened, bytes_harden}
use Rattle.hardening_examples.proofs.toggle_bytes_harden_crossed.Goals as goal

pub returns-clause-may : goal.returns-clause-may
returns-clause-may c = crossed_may_be_hardened

pub returns-clause-hardened : goal.returns-clause-hardened
returns-clause-hardened c = bytes_harden
