use Rattle.headline_laws.proofs.Accepted.{accepted_hardened}
use Rattle.headline_laws.proofs.accepted_design_is_hardened.Goals as goal

pub returns : goal.returns
returns c = λ files inputs a h y r. accepted_hardened files inputs h a.design a.graph a.cells a.is r.0 y r.1.0 r.1.1
