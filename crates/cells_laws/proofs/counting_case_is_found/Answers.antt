use Rattle.cells_laws.proofs.CaseCounts.{counting_case}
use Rattle.cells_laws.proofs.counting_case_is_found.Goals as goal

pub returns : goal.returns
returns c = counting_case
