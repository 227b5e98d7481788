use Rattle.graph_lists.proofs.Pairs.{from_rises, into_rises}
use Rattle.graph_lists.proofs.link_lists_are_in_wire_order.Goals as goal

pub returns-clause-from : goal.returns-clause-from
returns-clause-from c = λ links w rising. from_rises links w rising

pub returns-clause-into : goal.returns-clause-into
returns-clause-into c = λ links w rising. into_rises links w rising
