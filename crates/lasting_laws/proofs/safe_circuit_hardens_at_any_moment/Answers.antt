use Rattle.lasting_laws.proofs.Lasting.{at_any_moment}
use Rattle.lasting_laws.proofs.safe_circuit_hardens_at_any_moment.Goals as goal

pub returns : goal.returns
returns c = λ read written one other same safe.
    at_any_moment read written (record { clean = one.clean; formed = one.formed }) (record { clean = other.clean; formed = other.formed }) one.triplicated other.triplicated same safe
