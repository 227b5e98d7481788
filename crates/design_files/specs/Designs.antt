-- A design as its files give it: the configuration first, then the grid of the device that it names, the profile,
-- the side file, and the databases of the grid's tile types. (Our own.)
use Rattle.std.specs.Prelude.{ℕ, List, [], ◌∷◌, Option, Some, None, Result, Ok}
use Rattle.records.specs.Database.{TileDb}
use Rattle.records.specs.Grid.{Grid}
use Rattle.records.specs.Profile.{Profile}
use Rattle.records.specs.Side.{Side}
use Rattle.records.specs.Config.{Config}
use Rattle.records.specs.Limits.{most_config_bytes, most_json_bytes, most_database_bytes}
use Rattle.fabric.specs.Device.{TypeDb, Device}
use Rattle.json_forms.specs.Results.{◌>>=◌}
use Rattle.answers.specs.Refusals.{Refusal}
use Rattle.commands.specs.Commands.{Inputs}
use Rattle.design_files.specs.Names.{grid_name, database_name, types_of}
use Rattle.design_files.specs.Parsed.{Files, if_short, parsed, read_config, read_grid, read_profile, read_side, read_database}

pub record Design : Type 0 where
  pub config : Config
  pub device : Device
  pub side : Side

abbrev pub no_records : TileDb
no_records = record { muxes = []; words = []; enums = []; fixed = [] }

-- the database of a tile type; a type whose file isn't there has no records
abbrev pub database_in : List ℕ → Option (List ℕ) → Result TileDb Refusal
database_in name None = Ok no_records
database_in name (Some bytes) = if_short name most_database_bytes (read_database name) bytes

-- the databases of tile types, one after the other
abbrev pub databases_in : Files → List ℕ → List (List ℕ) → Result (List TypeDb) Refusal
databases_in files family [] = Ok []
databases_in files family (kind ∷ kinds) = do
  db ← database_in (database_name family kind) (files (database_name family kind))
  rest ← databases_in files family kinds
  Ok (record { kind = kind; db = db } ∷ rest)

-- ---- what each file of the inputs is read as

abbrev pub config_in : Files → Inputs → Result Config Refusal
config_in files inputs = parsed inputs.config most_config_bytes (read_config inputs.config) (files inputs.config)

-- the grid of a device
abbrev pub grid_in : Files → Inputs → List ℕ → Result Grid Refusal
grid_in files inputs device = parsed (grid_name inputs.family device) most_json_bytes (read_grid (grid_name inputs.family device)) (files (grid_name inputs.family device))

abbrev pub profile_in : Files → Inputs → Result Profile Refusal
profile_in files inputs = parsed inputs.profile most_json_bytes (read_profile inputs.profile) (files inputs.profile)

abbrev pub side_file_in : Files → Inputs → Result Side Refusal
side_file_in files inputs = parsed inputs.side most_json_bytes (read_side inputs.side) (files inputs.side)

-- The design of the inputs, or the refusal of the first file that is missing, too long or faulty.
unfoldable pub design_of : Files → Inputs → Result Design Refusal
design_of files inputs = do
  config ← config_in files inputs
  grid ← grid_in files inputs config.device
  profile ← profile_in files inputs
  side ← side_file_in files inputs
  types ← databases_in files inputs.family (types_of grid)
  Ok (record { config = config; device = record { grid = grid; types = types; profile = profile }; side = side })
