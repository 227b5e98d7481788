use Rattle.record_laws.proofs.RecordsFound.{arc_behind_is, mux_behind_is}
use Rattle.record_laws.proofs.records_are_those_of_the_graph.Goals as goal

pub returns-clause-muxes : goal.returns-clause-muxes
returns-clause-muxes c = λ device g muxes standing m. mux_behind_is device g muxes standing m

pub returns-clause-arcs : goal.returns-clause-arcs
returns-clause-arcs c = λ device g muxes arcs standing a. arc_behind_is device g muxes arcs standing a
