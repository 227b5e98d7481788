use Rattle.circuit_laws.proofs.OneDesign.{held_always}
use Rattle.moment_laws.proofs.registers_hold_the_same.Goals as goal

pub returns : goal.returns
returns g = λ c e one other same start input n v w rv rw t lt.
    held_always c e (record { clean = one.clean; formed = one.formed }) (record { clean = other.clean; formed = other.formed }) one.triplicated other.triplicated same start input n v w rv rw t lt
