use Rattle.decided_laws.proofs.Inputs as law
use Rattle.decided_laws.proofs.graph_and_text_are_decided.Goals as goal

pub returns-clause-graph : goal.returns-clause-graph
returns-clause-graph c = law.graph_decided

pub returns-clause-text : goal.returns-clause-text
returns-clause-text c = law.text_decided
