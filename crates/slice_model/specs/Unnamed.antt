-- Pads at which no named pad stands, tile by tile. (Our own.)
use Rattle.std.specs.Prelude.{ℕ, not, List, filter, flat_map, map}
use Rattle.std.specs.List.{enumerate_from}
use Rattle.records.specs.Grid.{Tile}
use Rattle.records.specs.Profile.{PadKind, Profile}
use Rattle.records.specs.Side.{Side}
use Rattle.fabric.specs.Graph.{Graph}
use Rattle.cells.specs.Sites.{Site, is_named, tile_pad_sites}

-- the sites of kinds in a tile at which no named pad stands
abbrev pub unnamed_of : Side → ℕ → Tile → List PadKind → List (Site PadKind)
unnamed_of side number tile kinds = filter (λ s. not (is_named side s)) (map (λ k. record { number = number; tile = tile; kind = k }) kinds)

-- those in tiles whose first has a number
abbrev pub unnamed_in : Profile → Side → ℕ → List Tile → List (Site PadKind)
unnamed_in profile side first tiles = filter (λ s. not (is_named side s)) (flat_map (λ t. tile_pad_sites profile t.0 t.1) (enumerate_from first tiles))
