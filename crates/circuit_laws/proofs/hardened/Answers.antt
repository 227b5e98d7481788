use Rattle.circuit_laws.proofs.Keeps.{kept_outside, kept_two}
use Rattle.circuit_laws.proofs.hardened.Goals as goal

pub returns : goal.returns
returns g = record {
  outside = λ c e one other same f within.
      kept_outside c e (record { clean = one.clean; formed = one.formed }) (record { clean = other.clean; formed = other.formed }) one.triplicated other.triplicated same f within;
  two = λ c e one other same f within.
      kept_two c e (record { clean = one.clean; formed = one.formed }) (record { clean = other.clean; formed = other.formed }) one.triplicated other.triplicated same f within;
}
