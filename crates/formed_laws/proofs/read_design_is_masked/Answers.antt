use Rattle.formed_laws.proofs.Formed.{read_flips_masked, read_mux_bits_masked}
use Rattle.formed_laws.proofs.read_design_is_masked.Goals as goal

pub returns : goal.returns
returns c = record { flips = read_flips_masked; mux_bits = read_mux_bits_masked }
