use Rattle.check_laws.proofs.Accepted.{accepted_masked}
use Rattle.check_laws.proofs.accepted_design_is_masked.Goals as goal

pub returns : goal.returns
returns c = λ files inputs a. accepted_masked files inputs a.design a.graph a.cells a.is
