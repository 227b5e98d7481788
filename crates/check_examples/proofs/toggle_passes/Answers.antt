use Rattle.check_examples.proofs.Passing.{toggle_sound, toggle_passes}
use Rattle.check_examples.proofs.toggle_passes.Goals as goal

pub returns : goal.returns
returns c = record { sound = toggle_sound; passes = toggle_passes }
