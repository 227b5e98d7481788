-- An accepted design is a sound job, so what a router writes of it hardens it.
use Rattle.std.proofs.Common.{ℕ, List}
use Rattle.fabric.specs.Graph.{Graph}
use Rattle.circuit.specs.Cells.{Cells}
use Rattle.repair.specs.Layouts.{Layout, configured}
use Rattle.attempts.specs.Attempts.{Event, Routed, IsAnswer, Ended}
use Rattle.commands.specs.Commands.{Inputs, Hardening}
use Rattle.design_files.specs.Parsed.{Files}
use Rattle.design_files.specs.Designs.{Design}
use Rattle.design_checks.specs.DesignChecks.{configured_as, IsAccepted}
use Rattle.design_answers.specs.Outcomes.{job_of}
use Rattle.design_answers.specs.Headline.{Hardens}
use Rattle.formed_laws.proofs.Names.{device_names_once}
use Rattle.check_laws.proofs.Accepted.{accepted_sound}
use Rattle.headline_laws.specs.Sound.{IsSoundJob}
use Rattle.headline_laws.proofs.Hardened.{hardened_design_keeps_outputs}
use Rattle.headline_laws.proofs.Reading.{files_read}

pub accepted_sound_job : (files : Files) (inputs : Inputs) (h : Hardening) (design : Design) (g : Graph) (cells : Cells) → IsAccepted files inputs design g cells
    → IsSoundJob (job_of design g cells h)
accepted_sound_job files inputs h design g cells accepted =
    let sound = accepted_sound files inputs design g cells accepted in
    record {
      read = sound.read;
      names = device_names_once design.device (files_read files inputs design sound.read.profile accepted.read).device;
      clean = sound.clean;
      agree = sound.agree;
      modelled = sound.modelled;
      triplicated = sound.triplicated;
    }

pub accepted_hardened : (files : Files) (inputs : Inputs) (h : Hardening) (design : Design) (g : Graph) (cells : Cells) → IsAccepted files inputs design g cells
    → (log : List Event) (y : Layout) (n : ℕ) → IsAnswer (job_of design g cells h) (Ended log (Routed y n)) → Hardens (configured_as design g cells) (configured y)
accepted_hardened files inputs h design g cells accepted log y n answer =
    hardened_design_keeps_outputs (job_of design g cells h) (accepted_sound_job files inputs h design g cells accepted) log y n answer
