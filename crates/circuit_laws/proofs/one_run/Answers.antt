use Rattle.circuit_laws.proofs.Sound.{Sound}
use Rattle.circuit_laws.proofs.ChosenRun.{world_at, run_is, run_follows, agree_always}
use Rattle.circuit_laws.proofs.one_run.Goals as goal

pub returns : goal.returns
returns g = λ c clean formed free f course choice. (
    let ok : Sound c = record { clean = clean; formed = formed } in (
      world_at c ok free f course.start course.input choice,
      (
        run_is c ok free f course.start course.input choice course.cycles,
        (
          run_follows c ok free f course.start course.input choice course.cycles,
          λ other is follows t lt. agree_always c ok free f course.start course.input choice course.cycles (world_at c ok free f course.start course.input choice) other
              (run_is c ok free f course.start course.input choice course.cycles) is (run_follows c ok free f course.start course.input choice course.cycles) follows t lt,
        ),
      ),
    )
    )
