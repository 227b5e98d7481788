use Rattle.lasting_examples.proofs.Corridor.{has_inputs, corridor_sound, corridor_masked, corridor_lasts, corridor_says}
use Rattle.lasting_examples.proofs.corridor_is_masked.Goals as goal

pub returns : goal.returns
returns c = record { inputs = has_inputs; sound = corridor_sound; masked = corridor_masked; moment = corridor_lasts; says = corridor_says }
