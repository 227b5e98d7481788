use Rattle.upset_examples.proofs.ToggleMeets.{toggle_formed, toggle_triplicated, toggle_masked}
use Rattle.upset_examples.proofs.toggle_is_masked.Goals as goal

pub returns-clause-formed : goal.returns-clause-formed
returns-clause-formed c = toggle_formed

pub returns-clause-triplicated : goal.returns-clause-triplicated
returns-clause-triplicated c = toggle_triplicated

pub returns-clause-masked : goal.returns-clause-masked
returns-clause-masked c = toggle_masked
