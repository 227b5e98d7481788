use Rattle.formed_laws.proofs.ProfileRead.{read_fit, read_slices_apart, read_pads_apart}
use Rattle.formed_laws.proofs.read_profile_has_kinds_apart.Goals as goal

pub returns : goal.returns
returns c = record { fit = read_fit; slices = read_slices_apart; pads = read_pads_apart }
