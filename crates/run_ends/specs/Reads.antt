-- Which files a run may come to read. (Our own.)
use Rattle.std.specs.Prelude.{◌≡◌, ℕ, List, ◌∷◌, ◌++◌, Some, Result, Ok}
use Rattle.patterns.specs.Bits.{DeviceBit}
use Rattle.fabric.specs.Device.{TypeDb}
use Rattle.records.specs.Config.{Config}
use Rattle.records.specs.Grid.{Grid}
use Rattle.records.specs.Profile.{Profile}
use Rattle.records.specs.Side.{Side}
use Rattle.commands.specs.Commands.{Command, Drivers, Inputs}
use Rattle.design_files.specs.Names.{grid_name, database_name, types_of}
use Rattle.design_files.specs.Parsed.{Files}
use Rattle.design_files.specs.Designs.{config_in, grid_in, profile_in, side_file_in, databases_in}
use Rattle.design_answers.specs.Outcomes.{inputs_of}

-- a tile type of a list, where the databases of all those before it are read and have no fault
pub record IsNextDatabase (files : Files) (family : List ℕ) (kinds : List (List ℕ)) (kind : List ℕ) : Type 0 where
  pub before : List (List ℕ)
  pub rest : List (List ℕ)
  pub order : kinds ≡ before ++ kind ∷ rest
  pub databases : List TypeDb
  pub read : databases_in files family before ≡ Ok databases

-- The files of a design in their order: the configuration, the grid of the device that it names, the profile, the side
-- file, and the databases of the grid's tile types in byte order. A run comes to one only where each before it was read
-- and has no fault.
pub data IsReached (files : Files) (inputs : Inputs) : List ℕ → Type 0 where
  the_config : IsReached files inputs inputs.config
  the_grid : {config : Config} → config_in files inputs ≡ Ok config → IsReached files inputs (grid_name inputs.family config.device)
  the_profile : {config : Config} {grid : Grid} → config_in files inputs ≡ Ok config → grid_in files inputs config.device ≡ Ok grid
      → IsReached files inputs inputs.profile
  the_side : {config : Config} {grid : Grid} {profile : Profile} → config_in files inputs ≡ Ok config → grid_in files inputs config.device ≡ Ok grid
      → profile_in files inputs ≡ Ok profile → IsReached files inputs inputs.side
  a_database : {config : Config} {grid : Grid} {profile : Profile} {side : Side} (kind : List ℕ) → config_in files inputs ≡ Ok config
      → grid_in files inputs config.device ≡ Ok grid → profile_in files inputs ≡ Ok profile → side_file_in files inputs ≡ Ok side
      → IsNextDatabase files inputs.family (types_of grid) kind → IsReached files inputs (database_name inputs.family kind)

-- a file that words may come to read: the one of `drivers`, or one of a design
pub data MayBeRead (files : Files) : Result Command ℕ → List ℕ → Type 0 where
  its_database : {name : List ℕ} {bits : List DeviceBit} → MayBeRead files (Ok (Drivers name bits)) name
  of_design : {command : Command} {inputs : Inputs} {name : List ℕ} → inputs_of command ≡ Some inputs → IsReached files inputs name
      → MayBeRead files (Ok command) name
