use Rattle.graph_lists.proofs.Listed.{key_from, key_to}
use Rattle.graph_lists.proofs.muxes_are_listed_once.Goals as goal

pub returns : goal.returns
returns c = λ g w m. ((λ h. key_from (λ mux. mux.sink) g.muxes w m h), (λ h. key_to (λ mux. mux.sink) g.muxes w m h.0 h.1.0 h.1.1))
