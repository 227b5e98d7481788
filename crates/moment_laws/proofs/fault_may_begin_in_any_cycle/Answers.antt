use Rattle.circuit.specs.Circuits.{Circuit}
use Rattle.circuit.specs.Sound.{IsSoundCircuit}
use Rattle.circuit_laws.proofs.OutputsRight.{masked}
use Rattle.circuit_laws.proofs.Sound.{Sound}
use Rattle.moment_laws.proofs.Moments.{kept_before, kept_outside, kept_two}
use Rattle.moment_laws.proofs.fault_may_begin_in_any_cycle.Goals as goal

ok : (c : Circuit) → IsSoundCircuit c → Sound c
ok c s = record { clean = s.clean; formed = s.formed }

pub returns : goal.returns
returns g = record {
  before = λ c e one other same f. kept_before c e (ok c one) (ok e other) one.triplicated other.triplicated same f;
  outside = λ c e one other same f within.
      (let m = masked e (ok e other) other.triplicated f within in
      (m.0, kept_outside c e (ok c one) (ok e other) one.triplicated other.triplicated same f m.0 m.1));
  two = λ c e one other same f within.
      (let m = masked e (ok e other) other.triplicated f within in
      kept_two c e (ok c one) (ok e other) one.triplicated other.triplicated same f m.0 m.1);
}
