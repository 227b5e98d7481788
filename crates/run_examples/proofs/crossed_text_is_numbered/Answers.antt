use Rattle.run_examples.proofs.Numbered.{crossed_is_numbered, numbered_accepted}
use Rattle.run_examples.proofs.crossed_text_is_numbered.Goals as goal

pub returns : goal.returns
returns c = record { read = crossed_is_numbered; accepted = numbered_accepted }
