use Rattle.text_laws.proofs.TextLines.{lines_back}
use Rattle.text_laws.proofs.printed_lines_are_lines.Goals as goal

pub returns : goal.returns
returns c = lines_back
