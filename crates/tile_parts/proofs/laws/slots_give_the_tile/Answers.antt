use Rattle.tile_parts.proofs.Standing.{muxes_are, arcs_are}
use Rattle.tile_parts.proofs.laws.slots_give_the_tile.Goals as goal

pub returns-clause-muxes : goal.returns-clause-muxes
returns-clause-muxes c = muxes_are

pub returns-clause-arcs : goal.returns-clause-arcs
returns-clause-arcs c = arcs_are
