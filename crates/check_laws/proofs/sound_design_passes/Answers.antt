use Rattle.check_laws.proofs.Converse.{sound_passes}
use Rattle.check_laws.proofs.sound_design_passes.Goals as goal

pub returns : goal.returns
returns c = sound_passes
