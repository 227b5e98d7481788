-- The configuration and the grid of an accepted design are read from files, and the database of each type from one or from
-- no bytes.
use Rattle.std.proofs.Common.{◌≡◌, ℕ, List, [], ◌∷◌, length, Option, Some, None, inl, inr, refl, sym, subst}
use Rattle.std.specs.Prelude.{Result, Ok, nat_lt, if◌then◌else◌}
use Rattle.words.specs.Members.{In}
use Rattle.records.specs.Database.{TileDb}
use Rattle.records.specs.Grid.{Grid}
use Rattle.records.specs.Config.{Config}
use Rattle.records.specs.Limits.{most_config_bytes, most_json_bytes, most_database_bytes}
use Rattle.grammars.specs.BitsDb as db
use Rattle.config_grammar.specs.ConfigText.{configuration_of}
use Rattle.json_forms.specs.Grid.{grid_of}
use Rattle.json_forms.specs.Results.{◌>>=◌}
use Rattle.fabric.specs.Device.{TypeDb}
use Rattle.answers.specs.Refusals.{Refusal, TooLong}
use Rattle.commands.specs.Commands.{Inputs}
use Rattle.design_files.specs.Names.{grid_name, database_name, types_of}
use Rattle.design_files.specs.Parsed.{Files, parsed, config_refusal, form_refusal, database_refusal, read_config, read_grid, read_database}
use Rattle.design_files.specs.Designs.{Design, no_records, database_in, databases_in, design_of}
use Rattle.formed_laws.specs.Readers.{IsReadGrid, IsReadProfile}
use Rattle.formed_laws.proofs.Results.{both}
use Rattle.formed_laws.specs.DatabaseRead.{IsReadDatabase, IsReadDevice}
use Rattle.check_laws.proofs.FilesParsed.{not_refused, short_enough, parsed_from, AreParsed, files_parsed}

-- a grid that is parsed is read from some bytes
grid_from : (name : List ℕ) (o : Option (List ℕ)) (grid : Grid) → parsed name most_json_bytes (read_grid name) o ≡ Ok grid → IsReadGrid grid
grid_from name o grid h = let b = parsed_from name most_json_bytes (read_grid name) o grid h in (b.0, not_refused (form_refusal name) (grid_of b.0) grid b.1)

-- so is a configuration
config_from : (name : List ℕ) (o : Option (List ℕ)) (config : Config) → parsed name most_config_bytes (read_config name) o ≡ Ok config → (bytes : List ℕ) × (configuration_of bytes ≡ Ok config)
config_from name o config h =
    let b = parsed_from name most_config_bytes (read_config name) o config h in (b.0, not_refused (config_refusal name) (configuration_of b.0) config b.1)

-- no bytes are read as no records
no_bytes : db.database_of [] ≡ Ok no_records
no_bytes = refl

records_same : (d e : TileDb) → (let o : Result TileDb Refusal = Ok d in o) ≡ Ok e → d ≡ e
records_same d e h = cc

-- so is a database, and that of a type whose file isn't there from no bytes
database_from : (name : List ℕ) (o : Option (List ℕ)) (d : TileDb) → database_in name o ≡ Ok d → IsReadDatabase d
database_from name None d h = ([], subst (λ e. db.database_of [] ≡ Ok e) (records_same no_records d h) no_bytes)
database_from name (Some bytes) d h =
    (bytes, not_refused (database_refusal name) (db.database_of bytes) d (short_enough (nat_lt most_database_bytes (length bytes)) (TooLong name) (read_database name bytes) d h))

types_same : (types others : List TypeDb) → (let o : Result (List TypeDb) Refusal = Ok types in o) ≡ Ok others → types ≡ others
types_same types others h = cc

-- the databases of the types are read
databases_from : (files : Files) (family : List ℕ) (kinds : List (List ℕ)) (types : List TypeDb) → databases_in files family kinds ≡ Ok types
    → (t : TypeDb) → In types t → IsReadDatabase t.db
databases_from files family [] types h t i = absurd (subst (λ (ts : List TypeDb). In ts t) (sym (types_same [] types h)) i)
databases_from files family (kind ∷ kinds) types h t i =
    let name = database_name family kind in
    let first = both (database_in name (files name)) after types h in
    let rest = both (databases_in files family kinds) (made first.0) types first.1.1 in
    of_parts first.0 rest.0 (database_from name (files name) first.0 first.1.0) (databases_from files family kinds rest.0 rest.1.0)
    (subst (λ (ts : List TypeDb). In ts t) (sym (types_same (record { kind = kind; db = first.0 } ∷ rest.0) types rest.1.1)) i)
  where
    made : TileDb → List TypeDb → Result (List TypeDb) Refusal
    made d rest = Ok (record { kind = kind; db = d } ∷ rest)

    after : TileDb → Result (List TypeDb) Refusal
    after d = databases_in files family kinds >>= made d

    of_parts : (d : TileDb) (rest : List TypeDb) → IsReadDatabase d → ((u : TypeDb) → In rest u → IsReadDatabase u.db)
        → In (record { kind = kind; db = d } ∷ rest) t → IsReadDatabase t.db
    of_parts d rest f r (inl e) = subst (λ (u : TypeDb). IsReadDatabase u.db) e f
    of_parts d rest f r (inr j) = r t j

-- Some bytes are read as the configuration of a design, and its device is read. Each file is parsed as its part.
pub record FilesRead (files : Files) (inputs : Inputs) (design : Design) : Type 0 where
  pub config : (bytes : List ℕ) × (configuration_of bytes ≡ Ok design.config)
  pub device : IsReadDevice design.device
  pub parts : AreParsed files inputs design

-- what files give, where the profile is read, is read
pub files_read : (files : Files) (inputs : Inputs) (design : Design) → IsReadProfile design.device.profile → design_of files inputs ≡ Ok design
    → FilesRead files inputs design
files_read files inputs design profile h =
    let p = files_parsed files inputs design h in
    let name = grid_name inputs.family design.config.device in
    record {
      config = config_from inputs.config (files inputs.config) design.config p.config;
      device = record {
        grid = grid_from name (files name) design.device.grid p.grid;
        types = databases_from files inputs.family (types_of design.device.grid) design.device.types p.types;
        profile = profile;
      };
      parts = p;
    }
