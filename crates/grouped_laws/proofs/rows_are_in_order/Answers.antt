use Rattle.grouped_laws.proofs.Stable.{rows_in_order}
use Rattle.grouped_laws.proofs.rows_are_in_order.Goals as goal

pub returns : goal.returns
returns g c = λ number key keys items same count below cmp rising. rows_in_order number key keys items same count below cmp rising
