use Rattle.graph_numbers.proofs.Numbered.{muxes_stand, arcs_stand}
use Rattle.graph_numbers.proofs.numbers_stand_for_all.Goals as goal

pub returns-clause-muxes : goal.returns-clause-muxes
returns-clause-muxes c = muxes_stand

pub returns-clause-arcs : goal.returns-clause-arcs
returns-clause-arcs c = arcs_stand
