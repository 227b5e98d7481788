use Rattle.circuit_laws.proofs.Sound.{Sound}
use Rattle.circuit_laws.proofs.Anew.{held, anew}
use Rattle.circuit_laws.proofs.run_starts_anew.Goals as goal

pub returns : goal.returns
returns g = λ c s course run is t lt. (
    let ok : Sound c = record { clean = s.clean; formed = s.formed } in
    (held c ok (run t), anew c ok s.triplicated course.start course.input course.cycles run is t lt)
    )
