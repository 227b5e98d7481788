-- What is proved of checks that can be decided.
use Rattle.std.specs.Prelude.{◌≡◌, Ok, ◌⊎◌}
use Rattle.fabric.specs.Graph.{Graph}
use Rattle.fabric.specs.GraphOf.{IsGraph}
use Rattle.fabric.specs.Image.{image_of}
use Rattle.circuit.specs.Cells.{Cells}
use Rattle.cells.specs.CellsOf.{cells_of}
use Rattle.answers.specs.Refusals.{Refusal}
use Rattle.commands.specs.Commands.{Inputs}
use Rattle.design_files.specs.Parsed.{Files}
use Rattle.design_files.specs.Designs.{Design, design_of}
use Rattle.design_checks.specs.Checks.{Passes}
use Rattle.design_checks.specs.DesignChecks.{GraphRefused, TextRefused, IsFirstRefusal}

-- a check refuses something, or it passes
abbrev pub IsDecided : (Refusal → Type 0) → Type 0
IsDecided check = ((r : Refusal) × check r) ⊎ Passes check

-- a design that is read, over its graph, whose checks pass up to those of its circuit, with its cells
pub record IsCircuitRead (files : Files) (inputs : Inputs) (design : Design) (g : Graph) (cells : Cells) : Type 0 where
  pub read : design_of files inputs ≡ Ok design
  pub graph : IsGraph design.device g
  pub graph_passes : Passes (GraphRefused design g)
  pub text_passes : Passes (TextRefused design g)
  pub cells_there : cells_of g design.device.profile (image_of g design.config) design.side ≡ Ok cells

-- The checks of a graph refuse something or pass, and so do those of a text over it.
abbrev pub GraphIsDecided : Type 0
GraphIsDecided = (design : Design) (g : Graph) → IsGraph design.device g → IsDecided (GraphRefused design g)

abbrev pub TextIsDecided : Type 0
TextIsDecided = (design : Design) (g : Graph) → IsGraph design.device g → IsDecided (TextRefused design g)

-- Inputs have a first refusal of their files, their graph or their text, or their circuit is read.
abbrev pub RefusedOrRead : Type 0
RefusedOrRead = (files : Files) (inputs : Inputs)
    → ((r : Refusal) × IsFirstRefusal files inputs r) ⊎ ((design : Design) × ((g : Graph) × ((cells : Cells) × IsCircuitRead files inputs design g cells)))
