use Rattle.circuit_laws.proofs.Steps.{copies_always}
use Rattle.circuit_laws.proofs.registers_agree.Goals as goal

pub returns : goal.returns
returns g = λ c sound course run is t lt s u q r rs ru ks ku same.
    copies_always c (record { clean = sound.clean; formed = sound.formed }) sound.triplicated course.start course.input course.cycles run is t lt s u q r rs ru same ks ku
