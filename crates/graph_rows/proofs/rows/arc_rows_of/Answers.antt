use Rattle.records.specs.Limits.{most_arcs}
use Rattle.graph_rows.proofs.Below.{no_more_arcs}
use Rattle.graph_rows.proofs.rows.arc_rows_of.Goals as goal

pub returns-clause-few : goal.returns-clause-few
returns-clause-few c = no_more_arcs c.in_ok-arcs.arcs.items c.in_ok-rows.rows.arcs most_arcs c.in_ok-rows.ensures.arcs c.in_ok-arcs.ensures.few
