use Rattle.route_laws.proofs.Cuts.{blocked_law}
use Rattle.route_laws.proofs.cut_is_tested.Goals as goal

pub returns : goal.returns
returns c = λ device t graph clean outputs inside rim pin h. blocked_law device t (record { graph = graph; clean = clean; outputs = outputs }) inside rim pin h
