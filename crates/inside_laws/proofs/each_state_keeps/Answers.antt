use Rattle.inside_laws.proofs.Reached as law
use Rattle.inside_laws.proofs.each_state_keeps.Goals as goal

pub returns-clause-state : goal.returns-clause-state
returns-clause-state c = law.state_keeps

pub returns-clause-layout : goal.returns-clause-layout
returns-clause-layout c = law.layout_keeps
