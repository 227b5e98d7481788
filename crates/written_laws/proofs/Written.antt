-- What is written of an accepted design is read as one that hardens it.
use Rattle.std.proofs.Common.{◌≡◌, ℕ, List, Option, Some, None, refl, sym, ap, subst, ◌∙◌}
use Rattle.std.specs.Prelude.{Ok}
use Rattle.records.specs.Config.{Config}
use Rattle.links.specs.Links.{IsClean}
use Rattle.fabric.specs.Agree.{ArcsAgree}
use Rattle.fabric.specs.Device.{Device}
use Rattle.fabric.specs.Graph.{Graph}
use Rattle.fabric.specs.Image.{image_of}
use Rattle.circuit.specs.Cells.{Cells}
use Rattle.circuit.specs.Triplicated.{IsTriplicated}
use Rattle.cells.specs.CellsOf.{cells_of}
use Rattle.upset.specs.Configured.{Configured, circuit_of}
use Rattle.repair.specs.Turns.{routing}
use Rattle.repair.specs.Layouts.{Layout, configured}
use Rattle.attempts.specs.Jobs.{Job}
use Rattle.attempts.specs.Attempts.{Event, Routed, IsAnswer, Ended}
use Rattle.config_grammar.specs.ConfigPrint.{config_text}
use Rattle.side_form.specs.SidePrint.{side_text}
use Rattle.answers.specs.Answers.{Done}
use Rattle.answers.specs.Refusals.{Refusal}
use Rattle.commands.specs.Commands.{Inputs, Harden, Hardening}
use Rattle.design_files.specs.Parsed.{Files}
use Rattle.design_files.specs.Designs.{Design}
use Rattle.design_checks.specs.Checks.{Passes, ◌before◌, Computed}
use Rattle.design_checks.specs.GraphChecks.{graph_size_refusal, Overlap}
use Rattle.design_checks.specs.LineChecks.{line_refusal}
use Rattle.design_checks.specs.RoutingChecks.{ArcsDiffer, AreContested}
use Rattle.design_checks.specs.CellChecks.{cell_refusal}
use Rattle.design_checks.specs.DesignChecks.{GraphRefused, TextRefused, CellsRefused, configured_as, IsAccepted}
use Rattle.design_answers.specs.Outcomes.{job_of, Outcome, IsOutcome, refuses, stands, hardens, finds_no_route}
use Rattle.design_answers.specs.Headline.{Hardens, AreHardened}
use Rattle.check_laws.specs.Accepted.{FeedsAreModelled, IsSound}
use Rattle.check_laws.proofs.Passing.{first_passes, second_passes}
use Rattle.check_laws.proofs.Converse.{sound_passes}
use Rattle.headline_laws.specs.Sound.{IsSoundJob}
use Rattle.headline_laws.specs.Kept.{KeepsDesign}
use Rattle.headline_laws.proofs.Runs.{answer_keeps}
use Rattle.headline_laws.proofs.Hardened.{written_triplicated, hardened_design_keeps_outputs}
use Rattle.text_laws.specs.SameButLines.{SameButLines}
use Rattle.text_laws.specs.Formed.{IsFormedSide, IsFormedText}
use Rattle.text_laws.proofs.ReadFormed.{read_formed}
use Rattle.text_laws.proofs.NoFaults.{printed_read, printed_lines}
use Rattle.text_laws.proofs.SidePrinted.{side_formed, side_read_back}
use Rattle.text_laws.proofs.SameWrites.{same_image, same_agreeing}
use Rattle.text_laws.proofs.SameFaults.{not_refused}
use Rattle.text_laws.proofs.SamePrint.{same_print}
use Rattle.headline_laws.proofs.Reading.{files_read}
use Rattle.headline_laws.proofs.Accepted.{accepted_sound_job}
use Rattle.written_laws.specs.Writable.{IsWritable}
use Rattle.written_laws.specs.Written.{MayBeHardened, IsReadAgain, WritesHardened}
use Rattle.written_laws.proofs.Faults.{read_is_writable, none_refused}
use Rattle.written_laws.proofs.SectionNames.{writable_is_formed}
use Rattle.written_laws.proofs.Runs.{answer_writable}
use Rattle.written_laws.proofs.Sides.{kept_side_is_formed}

-- a check that a definition computes and that refuses nothing
nothing_refused : (o : Option Refusal) → Passes (Computed o) → o ≡ None
nothing_refused None pass = refl
nothing_refused (Some r) pass = absurd (pass r refl)

-- ---- a sound design that is printed and read

module _ (design : Design) (g : Graph) (cells : Cells) (sound : IsSound design.device design.config (configured_as design g cells)) (text : IsFormedText design.config) (side : IsFormedSide design.side)
    (small : graph_size_refusal g ≡ None) (lines : line_refusal g design.config ≡ None) where
  module _ (d : Config) (same : SameButLines design.config d) where
    abbrev again : Design
    again = record { config = d; device = design.device; side = design.side }

    same_configured : configured_as design g cells ≡ configured_as again g cells
    same_configured i = record { graph = g; image = same_image g design.config d same i; cells = cells; side = design.side }

    again_sound : IsSound design.device d (configured_as again g cells)
    again_sound = record {
      read = record {
        profile = sound.read.profile;
        side = (side_text design.side, side_read_back design.side side);
        graph = sound.read.graph;
        outputs = sound.read.outputs;
        cells = subst (λ (k : Configured). cells_of k.graph design.device.profile k.image k.side ≡ Ok k.cells) same_configured sound.read.cells;
      };
      clean = subst (λ k. IsClean (routing k)) same_configured sound.clean;
      agree = (same_agreeing g (image_of g d) design.config d same).0 (subst (λ (k : Configured). ArcsAgree k.graph k.image design.config) same_configured sound.agree);
      modelled = subst (λ k. FeedsAreModelled (circuit_of k)) same_configured sound.modelled;
      triplicated = subst (λ k. IsTriplicated (circuit_of k)) same_configured sound.triplicated;
    }

  -- it is read as one that no check refuses
  pub sound_is_read_again : IsReadAgain design g (config_text design.config) (side_text design.side)
  sound_is_read_again =
      let r = printed_read design.config text in
      record {
        again = again r.0 r.1.1;
        text_read = r.1.0;
        side_read = side_read_back design.side side;
        device = refl;
        side_stays = refl;
        device_named = r.1.1.device;
        image = sym (same_image g design.config r.0 r.1.1);
        printed = same_print design.config r.0 r.1.1;
        passes = sound_passes (again r.0 r.1.1) g cells (again_sound r.0 r.1.1) small
            (not_refused g design.config r.0 r.1.1 (printed_lines design.config r.0 text r.1.0) lines);
      }

-- ---- what is written

-- an accepted design may be hardened
module _ (files : Files) (inputs : Inputs) (h : Hardening) (design : Design) (g : Graph) (cells : Cells) (accepted : IsAccepted files inputs design g cells) where
  graph_passes : Passes (GraphRefused design g)
  graph_passes = first_passes (GraphRefused design g) (TextRefused design g before CellsRefused design g) accepted.passes

  text_passes : Passes (TextRefused design g)
  text_passes = first_passes (TextRefused design g) (CellsRefused design g) (second_passes (GraphRefused design g) (TextRefused design g before CellsRefused design g) accepted.passes)

  pub accepted_may_be_hardened : MayBeHardened design g cells h
  accepted_may_be_hardened =
      let sound = accepted_sound_job files inputs h design g cells accepted in
      let read = files_read files inputs design sound.read.profile accepted.read in
      let image = image_of g design.config in
      record {
        sound = sound;
        device = read.device;
        text = read_formed design.config read.config;
        small = nothing_refused (graph_size_refusal g) (first_passes (Computed (graph_size_refusal g)) (Overlap design.device g) graph_passes);
        lines = nothing_refused (line_refusal g design.config)
            (first_passes (Computed (line_refusal g design.config))
            (ArcsDiffer g image design.config before AreContested g image before Computed (cell_refusal g design.device.profile image design.side)) text_passes);
      }

module _ (h : Hardening) (design : Design) (g : Graph) (cells : Cells) (may : MayBeHardened design g cells h) where
  abbrev job : Job
  job = job_of design g cells h

  abbrev sound : IsSoundJob job
  sound = may.sound

  module _ (log : List Event) (y : Layout) (n : ℕ) (answer : IsAnswer job (Ended log (Routed y n))) where
    pub text_writable : IsWritable g design.config y.config
    text_writable = answer_writable job sound.read.graph may.device sound.names (read_is_writable design.device g sound.read.graph design.config may.text may.lines) log y n answer

    pub lines_pass : line_refusal g y.config ≡ None
    lines_pass = none_refused g design.config y.config text_writable

    pub written_text_formed : IsFormedText y.config
    written_text_formed = writable_is_formed design.device g sound.read.graph may.device design.config y.config may.text text_writable

    pub kept : KeepsDesign job y
    kept = (answer_keeps job sound log y n answer).0

    pub written_side_formed : IsFormedSide y.side
    written_side_formed = kept_side_is_formed job sound may.device y kept (side_formed design.side sound.read.side)

    -- the design that is written
    abbrev written : Design
    written = record { config = y.config; device = design.device; side = y.side }

    same_layout : configured y ≡ configured_as written g y.cells
    same_layout i = record { graph = kept.graph i; image = image_of (kept.graph i) y.config; cells = y.cells; side = y.side }

    written_sound : IsSound design.device y.config (configured_as written g y.cells)
    written_sound = record {
      read = record {
        profile = sound.read.profile;
        side = (side_text y.side, side_read_back y.side written_side_formed);
        graph = sound.read.graph;
        outputs = sound.read.outputs;
        cells = subst (λ (k : Configured). cells_of k.graph design.device.profile k.image k.side ≡ Ok k.cells) same_layout kept.cells;
      };
      clean = subst (λ k. IsClean (routing k)) same_layout kept.ready.clean;
      agree = subst (λ (k : Configured). ArcsAgree k.graph k.image y.config) same_layout kept.agree;
      modelled = subst (λ k. FeedsAreModelled (circuit_of k)) same_layout kept.modelled;
      triplicated = subst (λ k. IsTriplicated (circuit_of k)) same_layout (written_triplicated job sound log y n answer);
    }

    written_is_read : IsReadAgain written g (config_text y.config) (side_text y.side)
    written_is_read = sound_is_read_again written g y.cells written_sound written_text_formed written_side_formed may.small lines_pass

    same_again : (r : IsReadAgain written g (config_text y.config) (side_text y.side)) → configured y ≡ configured_as r.again g y.cells
    same_again r i = record { graph = kept.graph i; image = (ap (λ x. image_of x y.config) kept.graph ∙ sym r.image) i; cells = y.cells; side = sym r.side_stays i }

    pub are_hardened : AreHardened design g cells (config_text y.config) (side_text y.side)
    are_hardened =
        let r = written_is_read in
        record {
          again = r.again;
          its_cells = y.cells;
          text_read = r.text_read;
          side_read = r.side_read;
          text_printed = r.printed;
          side_printed = ap side_text r.side_stays;
          device = r.device;
          device_named = r.device_named ∙ text_writable.device;
          cells_there = subst (λ (d : Device). cells_of g d.profile (image_of g r.again.config) r.again.side ≡ Ok y.cells) (sym r.device)
              (subst (λ (k : Configured). cells_of k.graph design.device.profile k.image k.side ≡ Ok k.cells) (same_again r) kept.cells);
          passes = r.passes;
          hardens = subst (Hardens (configured_as design g cells)) (same_again r) (hardened_design_keeps_outputs job sound log y n answer);
        }

-- over the outcomes of a run
pub outcome_hardened : (files : Files) (inputs : Inputs) (h : Hardening) (o : Outcome) → IsOutcome files (Harden inputs h) o → o.status ≡ Done → WritesHardened files inputs h o
outcome_hardened files inputs h o (refuses e r) done = absurd (let no : ⊥ = cc in no)
outcome_hardened files inputs h o (stands a s t b) done = absurd (let no : ⊥ = cc in no)
outcome_hardened files inputs h o (hardens {design = design} {g = g} {cells = cells} {log = log} {y = y} {connections = n} a r) done = record {
  design = design;
  graph = g;
  cells = cells;
  text = config_text y.config;
  side = side_text y.side;
  accepted = a;
  written = refl;
  hardened = are_hardened h design g cells (accepted_may_be_hardened files inputs h design g cells a) log y n r;
}
outcome_hardened files inputs h o (finds_no_route a r) done = absurd (let no : ⊥ = cc in no)
