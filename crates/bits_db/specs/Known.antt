-- The names that a reader knows already, lent from the source.
use Rattle.std.specs.Prelude.{◌≡◌, ℕ, Bool, List, Option, Some, None, []}
use denote.Ref.{Bor}
use Rattle.records.specs.Database.{Arc, Mux, EnumOption, EnumSetting}
use Rattle.text_cut.specs.Known.{knows}
use Rattle.grammars.specs.BitsDb.{has_sink, has_source, has_enum, has_value, last_of}

abbrev pub LentNames : Type 0
LentNames = List (Bor (List ℕ))

-- the known names are just those that pass the test
abbrev pub HoldsJust : LentNames → (List ℕ → Bool) → Type 0
HoldsJust names test = (q : List ℕ) → knows names q ≡ test q

-- the entries of a record that is there
abbrev pub entries_of : {X Y : Type 0} → (X → List Y) → Option X → List Y
entries_of entries None = []
entries_of entries (Some x) = entries x

-- the arcs of the last mux
abbrev pub last_arcs : List Mux → List Arc
last_arcs muxes = entries_of (λ m. m.arcs) (last_of muxes)

-- the sinks of all muxes are known, and the sources of the last one
pub record KnowsMuxes (muxes : List Mux) (of_sinks of_sources : LentNames) : Type 0 where
  pub names : HoldsJust of_sinks (has_sink muxes)
  pub entries : HoldsJust of_sources (has_source (last_arcs muxes))

-- the options of the last enum
abbrev pub last_options : List EnumSetting → List EnumOption
last_options enums = entries_of (λ e. e.options) (last_of enums)

-- the names of all enums are known, and the values of the last one
pub record KnowsEnums (enums : List EnumSetting) (of_enums of_values : LentNames) : Type 0 where
  pub names : HoldsJust of_enums (has_enum enums)
  pub entries : HoldsJust of_values (has_value (last_options enums))
