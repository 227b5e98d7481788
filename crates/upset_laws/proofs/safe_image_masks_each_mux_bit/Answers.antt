use Rattle.upset_laws.proofs.Masked.{mux_bits_masked}
use Rattle.upset_laws.proofs.safe_image_masks_each_mux_bit.Goals as goal

pub returns : goal.returns
returns c = λ k s. mux_bits_masked k s.clean s.formed s.triplicated
