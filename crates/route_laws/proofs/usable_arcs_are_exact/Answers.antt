use Rattle.route_laws.proofs.UsableTests.{usable_law}
use Rattle.route_laws.proofs.usable_arcs_are_exact.Goals as goal

pub returns : goal.returns
returns c = λ device t graph clean outputs arcs of_graph a. usable_law device t (record { graph = graph; clean = clean; outputs = outputs }) arcs of_graph a
