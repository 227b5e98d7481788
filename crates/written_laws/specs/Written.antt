-- What is asked of a design whose hardened text is read again, and what a run of `harden` writes. (Our own.)
use Rattle.std.specs.Prelude.{◌≡◌, ◌≤◌, ℕ, List, [], ◌∷◌, length, Some, None, Ok}
use Rattle.records.specs.Limits.{most_config_bytes, most_json_bytes}
use Rattle.fabric.specs.Graph.{Graph}
use Rattle.fabric.specs.Image.{image_of}
use Rattle.circuit.specs.Cells.{Cells}
use Rattle.config_grammar.specs.ConfigText.{configuration_of}
use Rattle.config_grammar.specs.ConfigPrint.{config_text}
use Rattle.side_form.specs.Side.{side_of}
use Rattle.commands.specs.Commands.{Inputs, Hardening}
use Rattle.design_files.specs.Names.{grid_name, database_name}
use Rattle.design_files.specs.Parsed.{Files}
use Rattle.design_files.specs.Designs.{Design}
use Rattle.design_checks.specs.GraphChecks.{graph_size_refusal}
use Rattle.design_checks.specs.LineChecks.{line_refusal}
use Rattle.design_checks.specs.Checks.{Passes}
use Rattle.design_checks.specs.DesignChecks.{configured_as, DesignRefused, IsAccepted}
use Rattle.design_answers.specs.Outcomes.{job_of, Outcome, file}
use Rattle.design_answers.specs.Headline.{Hardens, AreHardened}
use Rattle.formed_laws.specs.DatabaseRead.{IsReadDevice}
use Rattle.headline_laws.specs.Sound.{IsSoundJob}
use Rattle.text_laws.specs.Formed.{IsFormedText}

-- The design is a sound job. Its device is read and its text is of the form that is read, its graph is within its limits,
-- and each of its lines names what is there.
pub record MayBeHardened (design : Design) (g : Graph) (cells : Cells) (h : Hardening) : Type 0 where
  pub sound : IsSoundJob (job_of design g cells h)
  pub device : IsReadDevice design.device
  pub text : IsFormedText design.config
  pub small : graph_size_refusal g ≡ None
  pub lines : line_refusal g design.config ≡ None

-- The bytes of a text and of a side file are read as a design of the same device, with the same side file, whose text names
-- the same device, leaves the same image and prints the same. No check refuses it.
pub record IsReadAgain (design : Design) (g : Graph) (text side : List ℕ) : Type 0 where
  pub again : Design
  pub text_read : configuration_of text ≡ Ok again.config
  pub side_read : side_of side ≡ Ok again.side
  pub device : again.device ≡ design.device
  pub side_stays : again.side ≡ design.side
  pub device_named : again.config.device ≡ design.config.device
  pub image : image_of g again.config ≡ image_of g design.config
  pub printed : config_text again.config ≡ config_text design.config
  pub passes : Passes (DesignRefused again g)

-- A later run over what was written. Its family and its profile are those of the first run, and the files of the device stand
-- as they stood. Its text and its side file are those that were written, and neither is too long to be read.
pub record IsLaterRun (files later : Files) (inputs again : Inputs) (device text side : List ℕ) : Type 0 where
  pub family : again.family ≡ inputs.family
  pub profile : again.profile ≡ inputs.profile
  pub profile_stands : later inputs.profile ≡ files inputs.profile
  pub grid_stands : later (grid_name inputs.family device) ≡ files (grid_name inputs.family device)
  pub databases_stand : (kind : List ℕ) → later (database_name inputs.family kind) ≡ files (database_name inputs.family kind)
  pub text_there : later again.config ≡ Some text
  pub side_there : later again.side ≡ Some side
  pub short_text : length text ≤ most_config_bytes
  pub short_side : length side ≤ most_json_bytes

-- The inputs of a run are accepted, as a design over the same graph that hardens another one.
pub record AcceptsHardened (files : Files) (inputs : Inputs) (design : Design) (g : Graph) (cells : Cells) : Type 0 where
  pub again : Design
  pub its_cells : Cells
  pub accepted : IsAccepted files inputs again g its_cells
  pub hardens : Hardens (configured_as design g cells) (configured_as again g its_cells)

-- The inputs are accepted as a design, and a text and a side file are written that harden it, in this order and nothing else.
pub record WritesHardened (files : Files) (inputs : Inputs) (h : Hardening) (o : Outcome) : Type 0 where
  pub design : Design
  pub graph : Graph
  pub cells : Cells
  pub text : List ℕ
  pub side : List ℕ
  pub accepted : IsAccepted files inputs design graph cells
  pub written : o.written ≡ file h.out text ∷ file h.side_out side ∷ []
  pub hardened : AreHardened design graph cells text side
