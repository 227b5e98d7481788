use Rattle.hardening_examples.proofs.Hardened.{crossed_hardened}
use Rattle.hardening_examples.proofs.toggle_hardens_crossed.Goals as goal

pub returns : goal.returns
returns c = crossed_hardened
