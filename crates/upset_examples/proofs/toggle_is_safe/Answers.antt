use Rattle.upset_examples.proofs.Conditions.{toggle_clean, toggle_safe}
use Rattle.upset_examples.proofs.toggle_is_safe.Goals as goal

pub returns-clause-clean : goal.returns-clause-clean
returns-clause-clean c = toggle_clean

pub returns-clause-safe : goal.returns-clause-safe
returns-clause-safe c = toggle_safe
