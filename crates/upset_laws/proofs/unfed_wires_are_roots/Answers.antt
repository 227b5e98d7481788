use Rattle.upset_laws.proofs.Roots.{unfed_roots}
use Rattle.upset_laws.proofs.unfed_wires_are_roots.Goals as goal

pub returns : goal.returns
returns c = unfed_roots
