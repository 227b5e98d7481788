use Rattle.run_end_laws.proofs.Worked.{unprinted_end, unwritten_end}
use Rattle.run_end_laws.proofs.writing_ends.Goals as goal

pub returns : goal.returns
returns c = record { unprinted = unprinted_end; unwritten = unwritten_end }
