use Rattle.row_laws.proofs.ArcRows.{muxes_by}
use Rattle.row_laws.proofs.mux_rows_are_the_lists_of_the_graph.Goals as goal

pub returns : goal.returns
returns c = λ g muxes same w. muxes_by g muxes same w
