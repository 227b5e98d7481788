-- Muxes of a graph by numbers, as a program keeps them. (Our own.)
use Rattle.std.specs.Prelude.{◌≡◌, ℕ, List, length, ◌<◌}
use Rattle.words.specs.Members.{In}
use Rattle.place_rows.specs.PlaceRows.{rows_by}

-- A mux by numbers alone: its tile, its place among the muxes of the tile's database, and the wire that it drives.
pub record MuxNumbers : Type 0 where
  pub tile : ℕ
  pub place : ℕ
  pub sink : ℕ

-- how many tiles and wires there are, and the muxes by tile, then in file order
pub record MuxTable : Type 0 where
  pub tiles : ℕ
  pub wires : ℕ
  pub muxes : List MuxNumbers

-- a number of each mux is below a count
abbrev pub AreBelow : (MuxNumbers → ℕ) → ℕ → List MuxNumbers → Type 0
AreBelow key count muxes = (m : MuxNumbers) → In muxes m → key m < count

-- the rows are those of the muxes, by tile and by sink
pub record AreRowsOf (muxes : List MuxNumbers) (of_tile of_sink : List (List ℕ)) : Type 0 where
  pub by_tile : of_tile ≡ rows_by (λ m. m.tile) (length of_tile) muxes
  pub by_sink : of_sink ≡ rows_by (λ m. m.sink) (length of_sink) muxes
