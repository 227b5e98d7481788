use Rattle.size_laws.proofs.Counts.{wires_refuse, muxes_refuse, arcs_refuse, none_refuses}
use Rattle.size_laws.proofs.counts_refuse_the_size.Goals as goal

pub returns-clause-wires : goal.returns-clause-wires
returns-clause-wires c = wires_refuse

pub returns-clause-muxes : goal.returns-clause-muxes
returns-clause-muxes c = muxes_refuse

pub returns-clause-arcs : goal.returns-clause-arcs
returns-clause-arcs c = arcs_refuse

pub returns-clause-none : goal.returns-clause-none
returns-clause-none c = none_refuses
