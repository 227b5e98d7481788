-- What look-ups by names ask of a graph.
use Rattle.std.specs.Prelude.{◌≡◌, ℕ, List, [], length, Some, slice_get}
use Rattle.std.specs.Option.{option_map_or}
use Rattle.records.specs.Grid.{Tile, origin_of}
use Rattle.fabric.specs.Settings.{Settings}
use Rattle.fabric.specs.Graph.{GraphArc, Graph}
use Rattle.fabric.specs.Image.{mux_named, arc_named}

-- the settings of the tile of a number; none where there is no such tile
abbrev pub settings_at : Graph → ℕ → Settings
settings_at g t = option_map_or (λ settings. settings) (slice_get g.settings t) (record { words = []; enums = [] })

-- Each tile has its settings, and the arcs that are found in a tile begin at its bit F0B0. The graph of a device is so
-- (`graph_of_device_stands`).
pub record StandsInTiles (g : Graph) : Type 0 where
  pub settings : length g.settings ≡ length g.grid.tiles
  pub origins : (t : ℕ) (tile : Tile) (sink source : List ℕ) (m : ℕ) (a : GraphArc) → slice_get g.grid.tiles t ≡ Some tile → mux_named g t sink ≡ Some m → arc_named g m source ≡ Some a
      → a.origin ≡ origin_of tile
