use Rattle.circuit_laws.proofs.OutputsRight.{outputs_agree}
use Rattle.circuit_laws.proofs.outputs_agree.Goals as goal

pub returns : goal.returns
returns g = λ c s course run is t lt o x y jo ex ey.
    outputs_agree c (record { clean = s.clean; formed = s.formed }) s.triplicated course.start course.input course.cycles run is t lt o x y jo ex ey
