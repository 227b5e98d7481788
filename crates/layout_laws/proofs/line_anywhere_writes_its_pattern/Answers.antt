use Rattle.repair_laws.proofs.Numbers.{numbered}
use Rattle.layout_laws.proofs.Lines.{has_line_more, image_more}
use Rattle.layout_laws.proofs.line_anywhere_writes_its_pattern.Goals as goal

pub returns-clause-image : goal.returns-clause-image
returns-clause-image c = λ device k config more a l is image agree use_a stands h. image_more device k config more a l is (numbered device k.graph is) image agree use_a stands h

pub returns-clause-lines : goal.returns-clause-lines
returns-clause-lines c = λ device g config more a l is stands h. has_line_more device g is l a stands config more h
