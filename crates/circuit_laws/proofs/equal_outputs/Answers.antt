use Rattle.circuit_laws.proofs.OneDesign.{shown_same}
use Rattle.circuit_laws.proofs.equal_outputs.Goals as goal

pub returns : goal.returns
returns g = λ c e one other same course v w rv rw t lt p jp.
    shown_same c e (record { clean = one.clean; formed = one.formed }) (record { clean = other.clean; formed = other.formed }) one.triplicated other.triplicated same
    course.start course.input course.cycles v w rv rw t lt p jp
