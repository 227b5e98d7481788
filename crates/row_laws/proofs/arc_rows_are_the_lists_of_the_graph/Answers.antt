use Rattle.row_laws.proofs.ArcRows.{arcs_by}
use Rattle.row_laws.proofs.arc_rows_are_the_lists_of_the_graph.Goals as goal

pub returns-clause-out : goal.returns-clause-out
returns-clause-out c = λ g arcs same w. arcs_by (λ a. a.source) g arcs same w

pub returns-clause-into : goal.returns-clause-into
returns-clause-into c = λ g arcs same w. arcs_by (λ a. a.sink) g arcs same w

pub returns-clause-of_mux : goal.returns-clause-of_mux
returns-clause-of_mux c = λ g arcs same m. arcs_by (λ a. a.mux) g arcs same m
