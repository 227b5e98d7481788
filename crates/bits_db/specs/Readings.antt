-- What the parts of a reader hold, and that what they know is in step with it.
use Rattle.std.specs.Prelude.{List, Option, Some, None, IsSome, option_map}
use Rattle.records.specs.Database.{WordSetting}
use Rattle.grammars.specs.BitsDb as db
use Rattle.bits_db.specs.declared.muxes.Muxes.{Muxes}
use Rattle.bits_db.specs.declared.settings.WordSettings.{WordSettings}
use Rattle.bits_db.specs.declared.enums.Enums.{Enums}
use Rattle.bits_db.specs.declared.connections.Connections.{Connections}
use Rattle.bits_db.specs.declared.reader.Reader.{Reader}
use Rattle.bits_db.specs.declared.reader.Kind.{Kind}
use Rattle.bits_db.specs.declared.reader.Kind.TheVariants.{Mux, Word, Enum, Fixed}
use Rattle.bits_db.specs.Kinds.{kind_view}
use Rattle.bits_db.specs.Known.{HoldsJust, KnowsMuxes, KnowsEnums}
use Rattle.bits_db.specs.KnownEnds.{KnowsEnds}

abbrev pub KnowsItsMuxes : Muxes → Type 0
KnowsItsMuxes m = KnowsMuxes m.muxes m.sinks m.sources

abbrev pub KnowsItsWords : WordSettings → Type 0
KnowsItsWords w = HoldsJust w.names (db.has_word w.settings)

abbrev pub KnowsItsEnums : Enums → Type 0
KnowsItsEnums e = KnowsEnums e.enums e.names e.values

abbrev pub KnowsItsEnds : Connections → Type 0
KnowsItsEnds c = KnowsEnds c.connections c.ends

-- what a reader has read
abbrev pub reading_view : Reader → db.Reading
reading_view r = record {
  open_kind = option_map kind_view r.kind;
  db = record { muxes = r.muxes.muxes; words = r.words.settings; enums = r.enums.enums; fixed = r.connections.connections };
}

-- rows of a word have a word that they belong to
abbrev pub HasOpenWord : Option Kind → List WordSetting → Type 0
HasOpenWord (Some Word) words = IsSome (db.last_of words)
HasOpenWord (Some Mux) words = Unit {0}
HasOpenWord (Some Enum) words = Unit {0}
HasOpenWord (Some Fixed) words = Unit {0}
HasOpenWord None words = Unit {0}

-- each part of a reader knows just the names of what it holds
pub record IsInStep (r : Reader) : Type 0 where
  pub muxes : KnowsItsMuxes r.muxes
  pub words : KnowsItsWords r.words
  pub open_word : HasOpenWord r.kind r.words.settings
  pub enums : KnowsItsEnums r.enums
  pub ends : KnowsItsEnds r.connections
