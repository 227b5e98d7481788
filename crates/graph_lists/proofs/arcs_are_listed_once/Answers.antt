use Rattle.graph_lists.proofs.Listed.{key_from, key_to}
use Rattle.graph_lists.proofs.arcs_are_listed_once.Goals as goal

pub returns-clause-out : goal.returns-clause-out
returns-clause-out c = λ g w a. ((λ h. key_from (λ arc. arc.source) g.arcs w a h), (λ h. key_to (λ arc. arc.source) g.arcs w a h.0 h.1.0 h.1.1))

pub returns-clause-into : goal.returns-clause-into
returns-clause-into c = λ g w a. ((λ h. key_from (λ arc. arc.sink) g.arcs w a h), (λ h. key_to (λ arc. arc.sink) g.arcs w a h.0 h.1.0 h.1.1))

pub returns-clause-of_mux : goal.returns-clause-of_mux
returns-clause-of_mux c = λ g m a. ((λ h. key_from (λ arc. arc.mux) g.arcs m a h), (λ h. key_to (λ arc. arc.mux) g.arcs m a h.0 h.1.0 h.1.1))
