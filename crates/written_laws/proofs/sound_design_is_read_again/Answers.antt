use Rattle.written_laws.proofs.Written.{sound_is_read_again}
use Rattle.written_laws.proofs.sound_design_is_read_again.Goals as goal

pub returns : goal.returns
returns c = sound_is_read_again
