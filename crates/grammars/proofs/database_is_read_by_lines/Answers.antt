use Rattle.grammars.proofs.RowLemmas.{read_by_lines}
use Rattle.grammars.proofs.database_is_read_by_lines.Goals as goal

pub returns : goal.returns
returns c = read_by_lines
