use Rattle.headline_laws.proofs.Hardened.{hardened_design_keeps_outputs}
use Rattle.headline_laws.proofs.hardened_design_keeps_outputs.Goals as goal

pub returns : goal.returns
returns c = λ job sound y r. hardened_design_keeps_outputs job sound r.0 y r.1.0 r.1.1
