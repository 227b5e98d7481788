-- The names of a database by which maps find places. (Our own.)
use Rattle.std.specs.Prelude.{◌≡◌, ℕ, List, map}
use Rattle.std.specs.BTreeMap.{BTreeMap}
use Rattle.records.specs.Database.{Mux, EnumSetting, TileDb}
use Rattle.database_names.specs.Places.{HoldsPlaces}
use denote.Ref.{Bor}

-- the muxes and enums with names of their own are those of a database, and the maps have the places of its names
pub record HoldsNames (db : TileDb) (of_muxes : BTreeMap (Bor (List ℕ)) ℕ) (each_mux : List Mux) (of_words of_enums : BTreeMap (Bor (List ℕ)) ℕ) (each_enum : List EnumSetting) : Type 0 where
  pub muxes : HoldsPlaces (map (λ m. m.sink) db.muxes) of_muxes
  pub sources : each_mux ≡ db.muxes
  pub words : HoldsPlaces (map (λ w. w.name) db.words) of_words
  pub enums : HoldsPlaces (map (λ e. e.name) db.enums) of_enums
  pub values : each_enum ≡ db.enums
