-- Under which names the files of a design stand, and how long they may be. (The folder's layout is after Project
-- Trellis; the limits are our own.)
use Rattle.std.specs.Prelude.{ℕ, List, ◌++◌, map, codes}
use Rattle.words.specs.Ordered.{in_order_once}
use Rattle.records.specs.Grid.{Grid}

-- the grid of a device in a family's folder
abbrev pub grid_name : List ℕ → List ℕ → List ℕ
grid_name family device = family ++ codes "/" ++ device ++ codes "/tilegrid.json"

-- the database of a tile type
abbrev pub database_name : List ℕ → List ℕ → List ℕ
database_name family kind = family ++ codes "/tiledata/" ++ kind ++ codes "/bits.db"

-- the tile types of a grid in byte order, each once
abbrev pub types_of : Grid → List (List ℕ)
types_of grid = in_order_once (λ kind. kind) (map (λ tile. tile.kind) grid.tiles)
