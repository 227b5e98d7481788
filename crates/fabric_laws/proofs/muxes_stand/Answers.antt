use Rattle.fabric_laws.proofs.Standing.{mux_stands}
use Rattle.fabric_laws.proofs.muxes_stand.Goals as goal

pub returns : goal.returns
returns c = mux_stands
