use Rattle.route_laws.proofs.Starts.{rest_law}
use Rattle.route_laws.proofs.rest_is_exact.Goals as goal

pub returns : goal.returns
returns c = λ device k graph clean outputs rip config. rest_law device k (record { graph = graph; clean = clean; outputs = outputs }) rip config
