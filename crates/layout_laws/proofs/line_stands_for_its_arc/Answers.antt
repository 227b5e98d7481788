use Rattle.layout_laws.proofs.Named.{own_line}
use Rattle.layout_laws.proofs.line_stands_for_its_arc.Goals as goal

pub returns : goal.returns
returns c = λ device g a is once i. own_line device g is once a i
