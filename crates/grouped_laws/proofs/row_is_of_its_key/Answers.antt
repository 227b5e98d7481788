use Rattle.grouped_laws.proofs.Stable.{row_is_filter}
use Rattle.grouped_laws.proofs.row_is_of_its_key.Goals as goal

pub returns : goal.returns
returns g c = λ number key keys items same k. row_is_filter number key keys items same k
