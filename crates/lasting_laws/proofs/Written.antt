-- The design as which the written bytes are read is the one that was written.
use Rattle.std.proofs.Common.{◌≡◌, ℕ, List, refl, ap, subst, ◌∙◌}
use Rattle.std.specs.Prelude.{Result, Ok}
use Rattle.records.specs.Config.{Config}
use Rattle.fabric.specs.Device.{Device}
use Rattle.fabric.specs.Graph.{Graph}
use Rattle.fabric.specs.Image.{image_of}
use Rattle.circuit.specs.Cells.{Cells}
use Rattle.cells.specs.CellsOf.{cells_of}
use Rattle.upset.specs.Configured.{Configured}
use Rattle.repair.specs.Layouts.{Layout, configured}
use Rattle.attempts.specs.Attempts.{Event, Routed, IsAnswer, Ended}
use Rattle.config_grammar.specs.ConfigText.{configuration_of}
use Rattle.config_grammar.specs.ConfigPrint.{config_text}
use Rattle.side_form.specs.SidePrint.{side_text}
use Rattle.answers.specs.Answers.{Done}
use Rattle.commands.specs.Commands.{Inputs, Harden, Hardening}
use Rattle.design_files.specs.Parsed.{Files}
use Rattle.design_files.specs.Designs.{Design}
use Rattle.design_checks.specs.DesignChecks.{configured_as}
use Rattle.design_answers.specs.Outcomes.{job_of, Outcome, IsOutcome, refuses, stands, hardens, finds_no_route}
use Rattle.design_answers.specs.Headline.{AreHardened}
use Rattle.headline_laws.specs.Kept.{KeepsDesign}
use Rattle.text_laws.specs.SameButLines.{SameButLines}
use Rattle.text_laws.proofs.NoFaults.{printed_read}
use Rattle.text_laws.proofs.SidePrinted.{side_read_back}
use Rattle.text_laws.proofs.SameWrites.{same_image}
use Rattle.written_laws.specs.Written.{MayBeHardened, WritesHardened}
use Rattle.written_laws.proofs.Written.{accepted_may_be_hardened, written_text_formed, written_side_formed, kept, are_hardened}
use Rattle.lasting_laws.specs.Lasting.{HardensAtAnyMoment, SaysSomething, IsLasting}
use Rattle.lasting_laws.proofs.Lasting.{answer_lasts, read_says, written_says}

-- what is read is one value
one_value : {X F : Type 0} (r : Result X F) (x y : X) → r ≡ Ok x → r ≡ Ok y → x ≡ y
one_value r x y a b = cc

module _ (h : Hardening) (design : Design) (g : Graph) (cells : Cells) (may : MayBeHardened design g cells h) (log : List Event) (y : Layout) (n : ℕ) (answer : IsAnswer (job_of design g cells h) (Ended log (Routed y n)))
    (a : AreHardened design g cells (config_text y.config) (side_text y.side)) where
  abbrev keeps : KeepsDesign (job_of design g cells h) y
  keeps = kept h design g cells may log y n answer

  its_text : (d : Config) × ((configuration_of (config_text y.config) ≡ Ok d) × SameButLines y.config d)
  its_text = printed_read y.config (written_text_formed h design g cells may log y n answer)

  same_text : its_text.0 ≡ a.again.config
  same_text = one_value (configuration_of (config_text y.config)) its_text.0 a.again.config its_text.1.0 a.text_read

  same_bits : image_of g y.config ≡ image_of g a.again.config
  same_bits = same_image g y.config its_text.0 its_text.1.1 ∙ ap (image_of g) same_text

  same_side : y.side ≡ a.again.side
  same_side = one_value _ y.side a.again.side (side_read_back y.side (written_side_formed h design g cells may log y n answer)) a.side_read

  -- the layout with its own cells
  placed : configured y ≡ configured_as a.again g y.cells
  placed i = record { graph = keeps.graph i; image = (ap (λ x. image_of x y.config) keeps.graph ∙ same_bits) i; cells = y.cells; side = same_side i }

  same_cells : y.cells ≡ a.its_cells
  same_cells =
      one_value (cells_of g design.device.profile (image_of g a.again.config) a.again.side) y.cells a.its_cells
      (subst (λ (k : Configured). cells_of k.graph design.device.profile k.image k.side ≡ Ok k.cells) placed keeps.cells)
      (subst (λ (d : Device). cells_of g d.profile (image_of g a.again.config) a.again.side ≡ Ok a.its_cells) a.device a.cells_there)

  same_written : configured y ≡ configured_as a.again g a.its_cells
  same_written = placed ∙ ap (configured_as a.again g) same_cells

  pub bytes_last : HardensAtAnyMoment (configured_as design g cells) (configured_as a.again g a.its_cells)
  bytes_last = subst (HardensAtAnyMoment (configured_as design g cells)) same_written (answer_lasts (job_of design g cells h) may.sound log y n answer)

  pub bytes_say : SaysSomething (configured_as a.again g a.its_cells)
  bytes_say = subst SaysSomething same_written (written_says (job_of design g cells h) may.sound log y n answer)

  pub design_says : SaysSomething (configured_as design g cells)
  design_says = read_says (job_of design g cells h) may.sound log y n answer

-- over the outcomes of a run
pub outcome_lasts : (files : Files) (inputs : Inputs) (h : Hardening) (o : Outcome) → IsOutcome files (Harden inputs h) o → o.status ≡ Done → (w : WritesHardened files inputs h o) × IsLasting w
outcome_lasts files inputs h o (refuses e r) done = absurd (let no : ⊥ = cc in no)
outcome_lasts files inputs h o (stands a s t b) done = absurd (let no : ⊥ = cc in no)
outcome_lasts files inputs h o (hardens {design = design} {g = g} {cells = cells} {log = log} {y = y} {connections = n} a r) done =
    let may = accepted_may_be_hardened files inputs h design g cells a in
    let bytes = are_hardened h design g cells may log y n r in (
      record { design = design; graph = g; cells = cells; text = config_text y.config; side = side_text y.side; accepted = a; written = refl; hardened = bytes },
      record {
        at_any_moment = bytes_last h design g cells may log y n r bytes;
        read_says = design_says h design g cells may log y n r bytes;
        written_says = bytes_say h design g cells may log y n r bytes;
      },
    )
outcome_lasts files inputs h o (finds_no_route a r) done = absurd (let no : ⊥ = cc in no)
