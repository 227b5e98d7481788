use Rattle.written_laws.proofs.Written.{accepted_may_be_hardened}
use Rattle.written_laws.proofs.accepted_design_may_be_hardened.Goals as goal

pub returns : goal.returns
returns c = λ files inputs a h. accepted_may_be_hardened files inputs h a.design a.graph a.cells a.is
