use Rattle.check_laws.proofs.Accepted.{passing_sound, accepted_sound}
use Rattle.check_laws.proofs.accepted_design_is_sound.Goals as goal

pub returns : goal.returns
returns c = record { accepted = λ files inputs a. accepted_sound files inputs a.design a.graph a.cells a.is; passing = passing_sound }
