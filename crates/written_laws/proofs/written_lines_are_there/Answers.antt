use Rattle.written_laws.proofs.Written.{text_writable, lines_pass}
use Rattle.written_laws.proofs.written_lines_are_there.Goals as goal

pub returns-clause-writable : goal.returns-clause-writable
returns-clause-writable c design g cells h may y r = text_writable h design g cells may r.0 y r.1.0 r.1.1

pub returns-clause-none_refused : goal.returns-clause-none_refused
returns-clause-none_refused c design g cells h may y r = lines_pass h design g cells may r.0 y r.1.0 r.1.1
