use Rattle.written_laws.proofs.Written.{written_text_formed, written_side_formed}
use Rattle.written_laws.proofs.written_files_are_formed.Goals as goal

pub returns-clause-text : goal.returns-clause-text
returns-clause-text c design g cells h may y r = written_text_formed h design g cells may r.0 y r.1.0 r.1.1

pub returns-clause-side : goal.returns-clause-side
returns-clause-side c design g cells h may y r = written_side_formed h design g cells may r.0 y r.1.0 r.1.1
