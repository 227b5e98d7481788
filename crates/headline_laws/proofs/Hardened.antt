-- What a router writes hardens what was read.
use Rattle.std.proofs.Common.{◌≡◌, ℕ, Bool, List, sym, ◌∙◌}
use Rattle.words.specs.Members.{In}
use Rattle.records.specs.Side.{Triple}
use Rattle.circuit.specs.Cells.{PadCell}
use Rattle.circuit.specs.Parts.{output_pads}
use Rattle.circuit.specs.Pins.{pad_pin}
use Rattle.circuit.specs.Circuits.{Circuit}
use Rattle.circuit.specs.Designs.{SameDesign}
use Rattle.circuit.specs.Faults.{Fault, no_fault, WithinOneDomain}
use Rattle.circuit.specs.Runs.{IsCycle}
use Rattle.circuit.specs.Worlds.{Bit, World}
use Rattle.circuit.specs.Triplicated.{IsTriplicated}
use Rattle.circuit_laws.proofs.Cycle.{is_bit}
use Rattle.circuit_laws.proofs.Parts.{pad_pin_listed}
use Rattle.circuit_laws.proofs.Sound.{Sound, to_pin}
use Rattle.circuit_laws.proofs.Steps.{pad_feeder}
use Rattle.circuit_laws.proofs.OneDesign.{shown_same}
use Rattle.circuit_laws.proofs.Keeps.{kept_outside, kept_two}
use Rattle.upset.specs.Configured.{circuit_of}
use Rattle.upset.specs.Safe.{only, IsMuxFault}
use Rattle.upset_laws.proofs.Masked.{one_domain}
use Rattle.repair.specs.Layouts.{Layout, configured}
use Rattle.attempts.specs.Jobs.{Job, read_of}
use Rattle.attempts.specs.Attempts.{Event, Routed, IsAnswer, Ended}
use Rattle.design_answers.specs.Headline.{GivesOutputsOf, KeepsOutputsOf, Hardens}
use Rattle.formed_laws.proofs.SideRead.{read_apart}
use Rattle.formed_laws.proofs.ProfileRead.{read_fit}
use Rattle.headline_laws.specs.Sound.{IsSoundJob}
use Rattle.headline_laws.specs.Kept.{KeepsDesign, HasEachConnection}
use Rattle.headline_laws.proofs.Alike.{Alike}
use Rattle.headline_laws.proofs.Triplicated.{triplicated}
use Rattle.headline_laws.proofs.Formed.{well_formed}
use Rattle.headline_laws.proofs.Runs.{answer_keeps}

-- an output pad of a triplicated circuit shows a bit, since no clock pad feeds it
bit_shown : (c : Circuit) → (ok : Sound c) → IsTriplicated c → (input : Triple → Bool) (w : World) → IsCycle c no_fault input w → (p : PadCell) → In (output_pads c.cells) p
    → (b : Bool) × (w.shown p.name ≡ Bit b)
bit_shown c ok triplicated input w cycle p i =
    let a = pad_feeder c ok triplicated p i in
    let connects = to_pin c a.0 (pad_pin p) (pad_pin_listed c.cells p i) a.1.0 in
    let b = is_bit c ok input w cycle a.0 p.wire (λ is_clock. triplicated.clocks.pads p i (a.0, (connects, is_clock))) a.1.0 in
    (b.0, cycle.shows p i (λ touched. touched) ∙ b.1)

module _ (job : Job) (sound : IsSoundJob job) (y : Layout) (k : KeepsDesign job y) (each : HasEachConnection job y) where
  abbrev written : Circuit
  written = circuit_of (configured y)

  pub read_sound : Sound (read_of job)
  read_sound = record {
    clean = sound.clean;
    formed = well_formed job.device (configured job.design) (read_apart job.design.side sound.read.side) (read_fit job.device.profile sound.read.profile) sound.read.graph sound.read.outputs sound.read.cells;
  }

  pub written_sound : Sound written
  written_sound = record { clean = k.ready.clean; formed = k.formed }

  -- the circuit is one of the design, and triplicated too
  pub same : SameDesign (read_of job) written
  same = record { sides = k.side; parts = k.parts; connections = λ x. (each x, k.none_new x) }

  alike : Alike (read_of job) written
  alike = record { sound = read_sound; also = written_sound; modelled = sound.modelled; also_modelled = k.modelled; same = same }

  pub also_triplicated : IsTriplicated written
  also_triplicated = triplicated alike sound.triplicated

  -- a flip of a routing-mux bit of a safe image has one domain at most
  within : (f : Fault) → IsMuxFault (configured y) f → WithinOneDomain written f
  within f m = (one_domain (configured y) (only m.bit) f m.effect).0 (k.safe m.bit m.is_mux_bit)

  gives : GivesOutputsOf (read_of job) written
  gives start input n v w rv rw t lt p i =
      let b = bit_shown (read_of job) read_sound sound.triplicated (input t) (v t) (rv.cycles t lt) p i in
      (b.0, (b.1, sym (shown_same (read_of job) written read_sound written_sound sound.triplicated also_triplicated same start input n v w rv rw t lt p i) ∙ b.1))

  masked : KeepsOutputsOf (read_of job) (configured y)
  masked f m = (
    kept_outside (read_of job) written read_sound written_sound sound.triplicated also_triplicated same f (within f m),
    kept_two (read_of job) written read_sound written_sound sound.triplicated also_triplicated same f (within f m),
  )

  pub kept_hardens : Hardens (configured job.design) (configured y)
  kept_hardens = record { side = k.side; outputs = gives; masked = masked }

-- the circuit of what is written
module _ (job : Job) (sound : IsSoundJob job) (log : List Event) (y : Layout) (n : ℕ) (a : IsAnswer job (Ended log (Routed y n))) where
  pub written_same : SameDesign (read_of job) (circuit_of (configured y))
  written_same = (let r = answer_keeps job sound log y n a in same job sound y r.0 r.1)

  pub written_triplicated : IsTriplicated (circuit_of (configured y))
  written_triplicated = (let r = answer_keeps job sound log y n a in also_triplicated job sound y r.0 r.1)

pub hardened_design_keeps_outputs : (job : Job) → IsSoundJob job → (log : List Event) (y : Layout) (n : ℕ) → IsAnswer job (Ended log (Routed y n)) → Hardens (configured job.design) (configured y)
hardened_design_keeps_outputs job sound log y n a = (let r = answer_keeps job sound log y n a in kept_hardens job sound y r.0 r.1)
