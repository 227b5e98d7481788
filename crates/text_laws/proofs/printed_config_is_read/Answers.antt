use Rattle.text_laws.proofs.NoFaults.{printed_read, printed_lines}
use Rattle.text_laws.proofs.printed_config_is_read.Goals as goal

pub returns-clause-same : goal.returns-clause-same
returns-clause-same c = printed_read

pub returns-clause-lines : goal.returns-clause-lines
returns-clause-lines c = printed_lines
