-- What is written keeps what was read at any moment, and what is said of both isn't said of nothing.
use Rattle.std.proofs.Common.{ℕ, List}
use Rattle.circuit.specs.Designs.{SameDesign}
use Rattle.circuit.specs.Faults.{Fault}
use Rattle.circuit.specs.Right.{RightOutside}
use Rattle.circuit.specs.Triplicated.{IsTriplicated}
use Rattle.records.specs.Side.{Domain}
use Rattle.circuit_laws.proofs.Sound.{Sound}
use Rattle.circuit_laws.proofs.ChosenRun.{world_at, run_is, run_follows, agree_always}
use Rattle.circuit_laws.proofs.OneDesign.{held_always}
use Rattle.circuit_laws.proofs.OutputsRight.{masked}
use Rattle.upset.specs.Configured.{Configured, circuit_of}
use Rattle.upset.specs.Safe.{IsMuxFault, IsSafe, only}
use Rattle.upset_laws.proofs.Decide.{effect_list}
use Rattle.upset_laws.proofs.Masked.{one_domain}
use Rattle.repair.specs.Layouts.{Layout, configured}
use Rattle.attempts.specs.Jobs.{Job}
use Rattle.attempts.specs.Attempts.{Event, Routed, IsAnswer, Ended}
use Rattle.headline_laws.specs.Sound.{IsSoundJob}
use Rattle.headline_laws.proofs.Runs.{answer_keeps}
use Rattle.headline_laws.proofs.Hardened.{read_sound, written_sound, written_same, written_triplicated}
use Rattle.moment_laws.proofs.Moments.{kept_before, kept_outside, kept_two}
use Rattle.lasting_laws.specs.Lasting.{HardensAtAnyMoment, SaysSomething}

-- over circuits
module _ (read written : Configured) (sound : Sound (circuit_of read)) (also : Sound (circuit_of written)) (tri : IsTriplicated (circuit_of read)) (too : IsTriplicated (circuit_of written))
    (same : SameDesign (circuit_of read) (circuit_of written)) (safe : IsSafe written) where
  masks : (f : Fault) → IsMuxFault written f → (d : Domain) × RightOutside (circuit_of written) f d
  masks f m = masked (circuit_of written) also too f ((one_domain written (only m.bit) f m.effect).0 (safe m.bit m.is_mux_bit))

  pub at_any_moment : HardensAtAnyMoment read written
  at_any_moment = record {
    registers = λ start input n v w rv rw t lt. held_always (circuit_of read) (circuit_of written) sound also tri too same start input n v w rv rw t lt;
    before = λ f m. kept_before (circuit_of read) (circuit_of written) sound also tri too same f;
    outside = λ f m. (let g = masks f m in (g.0, kept_outside (circuit_of read) (circuit_of written) sound also tri too same f g.0 g.1));
    two = λ f m. (let g = masks f m in kept_two (circuit_of read) (circuit_of written) sound also tri too same f g.0 g.1);
  }

pub something : (k : Configured) → Sound (circuit_of k) → IsTriplicated (circuit_of k) → SaysSomething k
something k ok tri = record {
  faults = λ b i. effect_list k (only b);
  runs = λ f start input choice n. (
    world_at (circuit_of k) ok tri.no_loop f start input choice,
    (
      run_is (circuit_of k) ok tri.no_loop f start input choice n,
      (
        run_follows (circuit_of k) ok tri.no_loop f start input choice n,
        λ other is follows t lt. agree_always (circuit_of k) ok tri.no_loop f start input choice n (world_at (circuit_of k) ok tri.no_loop f start input choice) other
            (run_is (circuit_of k) ok tri.no_loop f start input choice n) is (run_follows (circuit_of k) ok tri.no_loop f start input choice n) follows t lt,
      ),
    ),
  );
  outputs = tri.has_outputs;
}

-- over what a router answers
module _ (job : Job) (sound : IsSoundJob job) (log : List Event) (y : Layout) (n : ℕ) (answer : IsAnswer job (Ended log (Routed y n))) where
  its_read : Sound (circuit_of (configured job.design))
  its_read = (let r = answer_keeps job sound log y n answer in read_sound job sound y r.0 r.1)

  its_written : Sound (circuit_of (configured y))
  its_written = (let r = answer_keeps job sound log y n answer in written_sound job sound y r.0 r.1)

  pub answer_lasts : HardensAtAnyMoment (configured job.design) (configured y)
  answer_lasts =
      at_any_moment (configured job.design) (configured y) its_read its_written sound.triplicated (written_triplicated job sound log y n answer) (written_same job sound log y n answer)
      (answer_keeps job sound log y n answer).0.safe

  pub read_says : SaysSomething (configured job.design)
  read_says = something (configured job.design) its_read sound.triplicated

  pub written_says : SaysSomething (configured y)
  written_says = something (configured y) its_written (written_triplicated job sound log y n answer)
