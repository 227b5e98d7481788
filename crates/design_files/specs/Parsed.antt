-- One file: it has to be there and short enough, and then its bytes are read or have a fault. (Our own.)
use Rattle.std.specs.Prelude.{ℕ, List, length, Option, Some, None, Result, Ok, Err, nat_lt, if◌then◌else◌}
use Rattle.records.specs.Limits.{limit_name}
use Rattle.records.specs.Database.{TileDb}
use Rattle.records.specs.Grid.{Grid}
use Rattle.records.specs.Profile.{Profile}
use Rattle.records.specs.Side.{Side}
use Rattle.records.specs.Config.{Config}
use Rattle.grammars.specs.BitsDb as db
use Rattle.config_grammar.specs.ConfigText as config
use Rattle.json_forms.specs.Faults as form
use Rattle.json_forms.specs.Grid.{grid_of}
use Rattle.json_forms.specs.Profile.{profile_of}
use Rattle.side_form.specs.Side as side
use Rattle.answers.specs.Refusals.{Refusal, Missing, TooLong, BadLine, OutsideBlock, NoDevice, TooLarge, NotJson, BadShape, DuplicateName, UnknownName, Unpaired, WrongDomain}

-- the files by name
abbrev pub Files : Type 0
Files = List ℕ → Option (List ℕ)

-- what is read, with the refusal of each fault
abbrev pub or_refused : {X F : Type 0} → (F → Refusal) → Result X F → Result X Refusal
or_refused refusal (Ok x) = Ok x
or_refused refusal (Err fault) = Err (refusal fault)

-- bytes are read where they are at most so many
abbrev pub if_short : {X : Type 0} → List ℕ → ℕ → (List ℕ → Result X Refusal) → List ℕ → Result X Refusal
if_short name most read bytes = if nat_lt most (length bytes) then Err (TooLong name) else read bytes

-- a file that is there and has at most so many bytes is read
abbrev pub parsed : {X : Type 0} → List ℕ → ℕ → (List ℕ → Result X Refusal) → Option (List ℕ) → Result X Refusal
parsed name most read None = Err (Missing name)
parsed name most read (Some bytes) = if_short name most read bytes

-- ---- how faults are refused, under the name of the file

abbrev pub database_refusal : List ℕ → db.DbFault → Refusal
database_refusal name (db.BadLine line) = BadLine name line
database_refusal name (db.TooLarge limit) = TooLarge name (limit_name limit)

abbrev pub config_refusal : List ℕ → config.ConfigFault → Refusal
config_refusal name (config.BadLine line) = BadLine name line
config_refusal name (config.OutsideBlock line) = OutsideBlock name line
config_refusal name (config.TooLarge limit) = TooLarge name (limit_name limit)
config_refusal name config.NoDevice = NoDevice name

abbrev pub form_refusal : List ℕ → form.FormFault → Refusal
form_refusal name form.NotJson = NotJson name
form_refusal name (form.BadShape key) = BadShape name key
form_refusal name (form.TooLarge limit) = TooLarge name (limit_name limit)

abbrev pub side_refusal : List ℕ → side.SideFault → Refusal
side_refusal name (side.OfForm fault) = form_refusal name fault
side_refusal name (side.DuplicateName cell) = DuplicateName cell
side_refusal name (side.UnknownName cell) = UnknownName cell
side_refusal name (side.Unpaired cell) = Unpaired cell
side_refusal name (side.WrongDomain cell) = WrongDomain cell

-- ---- the readers

abbrev pub read_config : List ℕ → List ℕ → Result Config Refusal
read_config name bytes = or_refused (config_refusal name) (config.configuration_of bytes)

abbrev pub read_grid : List ℕ → List ℕ → Result Grid Refusal
read_grid name bytes = or_refused (form_refusal name) (grid_of bytes)

abbrev pub read_profile : List ℕ → List ℕ → Result Profile Refusal
read_profile name bytes = or_refused (form_refusal name) (profile_of bytes)

abbrev pub read_side : List ℕ → List ℕ → Result Side Refusal
read_side name bytes = or_refused (side_refusal name) (side.side_of bytes)

abbrev pub read_database : List ℕ → List ℕ → Result TileDb Refusal
read_database name bytes = or_refused (database_refusal name) (db.database_of bytes)
