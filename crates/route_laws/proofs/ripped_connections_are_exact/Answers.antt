use Rattle.route_laws.proofs.Starts.{ripped_connections_law}
use Rattle.route_laws.proofs.ripped_connections_are_exact.Goals as goal

pub returns : goal.returns
returns c = λ job graph clean outputs x. ripped_connections_law job (record { graph = graph; clean = clean; outputs = outputs }) x
