use Rattle.row_laws.proofs.BitRows.{all_are, muxes_are}
use Rattle.row_laws.proofs.bit_rows_are_the_lists_of_the_graph.Goals as goal

pub returns-clause-muxes : goal.returns-clause-muxes
returns-clause-muxes c = λ g rows are b. muxes_are g rows are b

pub returns-clause-bits : goal.returns-clause-bits
returns-clause-bits c = λ g rows are known bits listed. all_are g rows are known bits listed
