use Rattle.fabric_laws.proofs.Chosen.{mux_bits_law}
use Rattle.fabric_laws.proofs.mux_bits_are_named_by_arcs.Goals as goal

pub returns : goal.returns
returns c = mux_bits_law
