use Rattle.route_laws.proofs.Paths.{route_law}
use Rattle.route_laws.proofs.first_path_is_exact.Goals as goal

pub returns : goal.returns
returns c = λ device t graph clean outputs rims n pin path light. route_law device t (record { graph = graph; clean = clean; outputs = outputs }) rims n pin path light
