use Rattle.route_laws.proofs.Starts.{ripped_law}
use Rattle.route_laws.proofs.ripped_nets_are_exact.Goals as goal

pub returns : goal.returns
returns c = λ device k graph clean outputs rip net. ripped_law device k (record { graph = graph; clean = clean; outputs = outputs }) rip net
