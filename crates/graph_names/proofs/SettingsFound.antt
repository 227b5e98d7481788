-- The settings of a tile are those of its database.
use Rattle.std.proofs.Common.{◌≡◌, ℕ, List, [], Option, None, Some, option_map, option_and_then, refl, sym, ap, ◌∙◌}
use Rattle.std.specs.Prelude.{slice_get}
use Rattle.std.specs.Option.{option_map_or}
use Rattle.std.proofs.lemmas.Option.{slice_get-map}
use Rattle.records.specs.Database.{WordSetting, EnumSetting, EnumOption, TileDb}
use Rattle.records.specs.Grid.{Tile}
use Rattle.fabric.specs.Device.{TypeDb, Device}
use Rattle.fabric.specs.Graph.{Graph}
use Rattle.fabric.specs.GraphOf.{IsGraph, settings_in}
use Rattle.fabric.specs.Settings.{Settings, word_named, enum_named, option_of}
use Rattle.named_graph.specs.Standing.{settings_at}
use Rattle.record_laws.specs.Records.{type_named, db_of, db_at}
use Rattle.database_names.specs.Places.{named_in}

abbrev none_set : Settings
none_set = record { words = []; enums = [] }

abbrev set_of : TileDb → Settings
set_of db = record { words = db.words; enums = db.enums }

abbrev no_db : TileDb
no_db = record { muxes = []; words = []; enums = []; fixed = [] }

of_type : (o : Option TypeDb) → set_of (option_map_or (λ t. t.db) o no_db) ≡ option_map_or set_of (option_map (λ t. t.db) o) none_set
of_type None = refl
of_type (Some t) = refl

of_tile : (device : Device) (o : Option Tile) → option_map_or (λ settings. settings) (option_map (settings_in device) o) none_set ≡ option_map_or set_of (option_and_then (db_of device) o) none_set
of_tile device None = refl
of_tile device (Some tile) = of_type (type_named device.types tile.kind)

pub settings_are : (device : Device) (g : Graph) (t : ℕ) → IsGraph device g → settings_at g t ≡ option_map_or set_of (db_at device t) none_set
settings_are device g t is =
    ap (λ ss. option_map_or (λ settings. settings) (slice_get ss t) none_set) is.settings
    ∙ (ap (λ o. option_map_or (λ settings. settings) o none_set) (slice_get-map (settings_in device) device.grid.tiles t) ∙ of_tile device (slice_get device.grid.tiles t))

module _ (device : Device) (g : Graph) (t : ℕ) (is : IsGraph device g) where
  found_in : (db : TileDb) → Some db ≡ db_at device t → set_of db ≡ settings_at g t
  found_in db e = ap (λ o. option_map_or set_of o none_set) e ∙ sym (settings_are device g t is)

  absent : None ≡ db_at device t → none_set ≡ settings_at g t
  absent e = ap (λ o. option_map_or set_of o none_set) e ∙ sym (settings_are device g t is)

  pub word_found : (db : TileDb) (name : List ℕ) (o : Option WordSetting) → Some db ≡ db_at device t → o ≡ named_in (λ w. w.name) db.words name → o ≡ word_named (settings_at g t) name
  word_found db name o e h = h ∙ ap (λ s. word_named s name) (found_in db e)

  pub no_word : (name : List ℕ) → None ≡ db_at device t → None ≡ word_named (settings_at g t) name
  no_word name e = ap (λ s. word_named s name) (absent e)

  pub enum_found : (db : TileDb) (name : List ℕ) (o : Option EnumSetting) → Some db ≡ db_at device t → o ≡ named_in (λ e. e.name) db.enums name → o ≡ enum_named (settings_at g t) name
  enum_found db name o e h = h ∙ ap (λ s. enum_named s name) (found_in db e)

  pub no_enum : (name : List ℕ) → None ≡ db_at device t → None ≡ enum_named (settings_at g t) name
  no_enum name e = ap (λ s. enum_named s name) (absent e)

  pub option_found : (db : TileDb) (name value : List ℕ) (o : Option EnumOption) → Some db ≡ db_at device t → o ≡ option_and_then (λ enum. option_of enum value) (named_in (λ e. e.name) db.enums name)
      → o ≡ option_and_then (λ enum. option_of enum value) (enum_named (settings_at g t) name)
  option_found db name value o e h = h ∙ ap (λ s. option_and_then (λ enum. option_of enum value) (enum_named s name)) (found_in db e)

  pub no_option : (name value : List ℕ) → None ≡ db_at device t → None ≡ option_and_then (λ enum. option_of enum value) (enum_named (settings_at g t) name)
  no_option name value e = ap (λ s. option_and_then (λ enum. option_of enum value) (enum_named s name)) (absent e)
