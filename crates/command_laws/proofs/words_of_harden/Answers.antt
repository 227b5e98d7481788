use Rattle.command_laws.proofs.Harden.{harden_fits}
use Rattle.command_laws.proofs.words_of_harden.Goals as goal

pub returns : goal.returns
returns c = harden_fits
