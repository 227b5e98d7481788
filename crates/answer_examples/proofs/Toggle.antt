-- The toggle meets what the laws of answers ask.
use Rattle.std.proofs.Common.{List, ◌<◌, sym, subst, arith}
use Rattle.mini.specs.MiniA.{mini_a}
use Rattle.circuit.specs.WellFormed.{OutputsApart}
use Rattle.upset.specs.Safe.{IsSafe}
use Rattle.repair.specs.Layouts.{configured}
use Rattle.attempts.specs.Jobs.{Job, State, read_of}
use Rattle.attempts.specs.Starts.{IsFirstState}
use Rattle.attempts.specs.Attempts.{Event, Ending, Answer, Ended, IsAnswer, standing, ended}
use Rattle.formed_laws.proofs.Formed.{read_well_formed}
use Rattle.formed_laws.proofs.Names.{device_names_once}
use Rattle.headline_laws.specs.Sound.{IsSoundJob}
use Rattle.attempt_examples.specs.SafeToggle.{toggle_job}
use Rattle.formed_examples.proofs.Databases.{device_read}
use Rattle.check_examples.proofs.Passing.{toggle_sound}
use Rattle.answer_laws.specs.Named.{AllNamed}
use Rattle.answer_laws.proofs.Starts.{of_named_part, some_start}
use Rattle.inside_laws.specs.Inside.{IsReached, at_start}
use Rattle.inside_laws.proofs.Answered.{sound_answered}

pub sound : IsSoundJob toggle_job
sound = record {
  read = toggle_sound.read;
  names = device_names_once mini_a device_read;
  clean = toggle_sound.clean;
  agree = toggle_sound.agree;
  modelled = toggle_sound.modelled;
  triplicated = toggle_sound.triplicated;
}

pub apart : OutputsApart (read_of toggle_job)
apart = (read_well_formed mini_a (configured toggle_job.design) sound.read).outputs

pub some_answer : (a : Answer) × IsAnswer toggle_job a
some_answer = sound_answered toggle_job sound (let l : 0 < toggle_job.rounds = omega arith in l)

-- a start from which attempts run is safe
record SafeStart (j : Job) : Type 0 where
  state : State
  starts : IsFirstState j state
  safe : IsSafe (configured state.layout)

safe_start : (j : Job) (log : List Event) (e : Ending) → IsAnswer j (Ended log e) → SafeStart j
safe_start j log e (ended s p safe r) = record { state = s; starts = p; safe = safe }

named_in_order : (j : Job) (state : State) → IsFirstState j state → AllNamed j.design.cells state.order
named_in_order j state s x i = of_named_part j x ((s.order.members x).0 i).0

pub reached_from : (log : List Event) (e : Ending) → IsAnswer toggle_job (Ended log e) → (state : State) × (IsReached toggle_job state × AllNamed state.layout.cells state.order)
reached_from log e a =
    let s = safe_start toggle_job log e a in
    (s.state, (at_start s.starts s.safe, subst (λ cells. AllNamed cells s.state.order) (sym s.starts.cells) (named_in_order toggle_job s.state s.starts)))
