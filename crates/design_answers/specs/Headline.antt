-- What a hardened design keeps of the one that was read. (The aim is RoRA's; the form is our own.)
use Rattle.std.specs.Prelude.{◌≡◌, ℕ, ◌<◌, Bool, List, Ok}
use Rattle.words.specs.Members.{In}
use Rattle.records.specs.Side.{Domain, Triple}
use Rattle.fabric.specs.Graph.{Graph}
use Rattle.fabric.specs.Image.{image_of}
use Rattle.circuit.specs.Cells.{PadCell, Cells}
use Rattle.circuit.specs.Parts.{output_pads}
use Rattle.circuit.specs.Triples.{PartTriple}
use Rattle.circuit.specs.Circuits.{Circuit}
use Rattle.circuit.specs.Worlds.{Bit, World}
use Rattle.circuit.specs.Faults.{Fault, no_fault}
use Rattle.circuit.specs.Runs.{IsRun}
use Rattle.circuit.specs.Right.{KeepsOutside, KeepsTwo}
use Rattle.circuit.specs.Designs.{SameSide}
use Rattle.cells.specs.CellsOf.{cells_of}
use Rattle.upset.specs.Configured.{Configured, circuit_of}
use Rattle.upset.specs.Safe.{IsMuxFault}
use Rattle.config_grammar.specs.ConfigText.{configuration_of}
use Rattle.config_grammar.specs.ConfigPrint.{config_text}
use Rattle.side_form.specs.Side.{side_of}
use Rattle.side_form.specs.SidePrint.{side_text}
use Rattle.design_files.specs.Designs.{Design}
use Rattle.design_checks.specs.Checks.{Passes}
use Rattle.design_checks.specs.DesignChecks.{configured_as, DesignRefused}

-- A circuit gives the outputs of another one: from every common start, on every input and for every number of cycles,
-- every run of the one and every run of the other show in each cycle the same bit at each output pad.
abbrev pub GivesOutputsOf : Circuit → Circuit → Type 0
GivesOutputsOf c e = (start : PartTriple → Bool) (input : ℕ → Triple → Bool) (n : ℕ) (v w : ℕ → World) → IsRun c no_fault start input n v → IsRun e no_fault start input n w
    → (t : ℕ) → t < n → (p : PadCell) → In (output_pads c.cells) p → (b : Bool) × (((v t).shown p.name ≡ Bit b) × ((w t).shown p.name ≡ Bit b))

-- After the flip of any one routing-mux bit, whatever the disturbed wires and the touched cells carry in each cycle,
-- there is one domain outside which each output pad shows in every cycle what the circuit c shows undisturbed, so that
-- at least two of each three outputs do.
abbrev pub KeepsOutputsOf : Circuit → Configured → Type 0
KeepsOutputsOf c k = (f : Fault) → IsMuxFault k f → ((d : Domain) × KeepsOutside c (circuit_of k) f d) × KeepsTwo c (circuit_of k) f

-- What was written hardens what was read: the side files are the same but for tiles and kinds of slices, the circuit
-- gives the outputs of the one that was read, and after any one flip at least two of each three outputs keep them forever.
pub record Hardens (read written : Configured) : Type 0 where
  pub side : SameSide read.side written.side
  pub outputs : GivesOutputsOf (circuit_of read) (circuit_of written)
  pub masked : KeepsOutputsOf (circuit_of read) written

-- The bytes of a text and of a side file are the print of a design of the same device, as which they are read, and whose text
-- names that device. No check of a design refuses it, and it hardens the one that was read.
pub record AreHardened (design : Design) (g : Graph) (cells : Cells) (text side : List ℕ) : Type 0 where
  pub again : Design
  pub its_cells : Cells
  pub text_read : configuration_of text ≡ Ok again.config
  pub side_read : side_of side ≡ Ok again.side
  pub text_printed : config_text again.config ≡ text
  pub side_printed : side_text again.side ≡ side
  pub device : again.device ≡ design.device
  pub device_named : again.config.device ≡ design.config.device
  pub cells_there : cells_of g again.device.profile (image_of g again.config) again.side ≡ Ok its_cells
  pub passes : Passes (DesignRefused again g)
  pub hardens : Hardens (configured_as design g cells) (configured_as again g its_cells)
