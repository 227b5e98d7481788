use Rattle.repair_laws.proofs.Numbers.{numbered}
use Rattle.layout_laws.proofs.Inserted.{one_line}
use Rattle.layout_laws.proofs.line_is_put_in_its_place.Goals as goal

pub returns : goal.returns
returns c = λ device k config a is once agree use_a. one_line device k config a is once (numbered device k.graph is) agree use_a
