use Rattle.std.proofs.Common.{refl}
use Rattle.design_examples.proofs.first_faulty_line_decides.Goals as goal

pub returns-clause-word : goal.returns-clause-word
returns-clause-word c = refl

pub returns-clause-arc : goal.returns-clause-arc
returns-clause-arc c = refl

pub returns-clause-equal : goal.returns-clause-equal
returns-clause-equal c = refl

pub returns-clause-tile : goal.returns-clause-tile
returns-clause-tile c = refl

pub returns-clause-none : goal.returns-clause-none
returns-clause-none c = refl
