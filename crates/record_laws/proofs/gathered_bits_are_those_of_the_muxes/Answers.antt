use Rattle.record_laws.proofs.Pairs.{all_below, all_rise}
use Rattle.record_laws.proofs.Rows.{rows_are}
use Rattle.record_laws.proofs.gathered_bits_are_those_of_the_muxes.Goals as goal

pub returns-clause-order : goal.returns-clause-order
returns-clause-order c = λ device muxes. all_rise device 0 muxes

pub returns-clause-known : goal.returns-clause-known
returns-clause-known c = λ device muxes p i. all_below device muxes p i

pub returns-clause-rows : goal.returns-clause-rows
returns-clause-rows c = λ device g is muxes are pairs rows made is_rows. rows_are device g is muxes are pairs rows made is_rows
