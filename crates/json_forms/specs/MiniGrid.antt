-- The grid of the small device MINI-A: four pad tiles in row 0, four logic tiles in row 1, and three clock tiles
-- in row 2. (Our own.)
use Rattle.std.specs.Prelude.{ℕ, ◌*◌, List, [], ◌∷◌, ◌++◌, map, Some, codes}
use Rattle.records.specs.Grid.{Tile, Grid}

-- the text of its `tilegrid.json`
abbrev pub mini_grid_text : List ℕ
mini_grid_text =
    codes "{\"R0C1:MIO\": {\"cols\": 2, \"rows\": 8, \"sites\": [], \"start_bit\": 0, \"start_frame\": 16, \"type\": \"MIO\"},"
    ++ (codes " \"R0C2:MIO\": {\"cols\": 2, \"rows\": 8, \"sites\": [], \"start_bit\": 0, \"start_frame\": 32, \"type\": \"MIO\"},"
    ++ (codes " \"R0C3:MIO\": {\"cols\": 2, \"rows\": 8, \"sites\": [], \"start_bit\": 0, \"start_frame\": 48, \"type\": \"MIO\"},"
    ++ (codes " \"R0C4:MIO\": {\"cols\": 2, \"rows\": 8, \"sites\": [], \"start_bit\": 0, \"start_frame\": 64, \"type\": \"MIO\"},"
    ++ (codes " \"R1C1:MLC\": {\"cols\": 11, \"rows\": 8, \"sites\": [], \"start_bit\": 8, \"start_frame\": 16, \"type\": \"MLC\"},"
    ++ (codes " \"R1C2:MLC\": {\"cols\": 11, \"rows\": 8, \"sites\": [], \"start_bit\": 8, \"start_frame\": 32, \"type\": \"MLC\"},"
    ++ (codes " \"R1C3:MLC\": {\"cols\": 11, \"rows\": 8, \"sites\": [], \"start_bit\": 8, \"start_frame\": 48, \"type\": \"MLC\"},"
    ++ (codes " \"R1C4:MLC\": {\"cols\": 11, \"rows\": 8, \"sites\": [], \"start_bit\": 8, \"start_frame\": 64, \"type\": \"MLC\"},"
    ++ (codes " \"R2C1:MCK\": {\"cols\": 2, \"rows\": 8, \"sites\": [], \"start_bit\": 16, \"start_frame\": 16, \"type\": \"MCK\"},"
    ++ (codes " \"R2C2:MCK\": {\"cols\": 2, \"rows\": 8, \"sites\": [], \"start_bit\": 16, \"start_frame\": 32, \"type\": \"MCK\"},"
    ++ (codes " \"R2C3:MCK\": {\"cols\": 2, \"rows\": 8, \"sites\": [], \"start_bit\": 16, \"start_frame\": 48, \"type\": \"MCK\"}}"))))))))))

-- a tile by its name, row, column, type and number of frames; each has 8 bits in a frame
abbrev pub Spot : Type 0
Spot = List ℕ × ℕ × ℕ × List ℕ × ℕ

abbrev pub spots : List Spot
spots =
    (codes "R0C1:MIO", 0, 1, codes "MIO", 2)
    ∷ (codes "R0C2:MIO", 0, 2, codes "MIO", 2)
    ∷ (codes "R0C3:MIO", 0, 3, codes "MIO", 2)
    ∷ (codes "R0C4:MIO", 0, 4, codes "MIO", 2)
    ∷ (codes "R1C1:MLC", 1, 1, codes "MLC", 11)
    ∷ (codes "R1C2:MLC", 1, 2, codes "MLC", 11)
    ∷ (codes "R1C3:MLC", 1, 3, codes "MLC", 11)
    ∷ (codes "R1C4:MLC", 1, 4, codes "MLC", 11)
    ∷ (codes "R2C1:MCK", 2, 1, codes "MCK", 2)
    ∷ (codes "R2C2:MCK", 2, 2, codes "MCK", 2)
    ∷ (codes "R2C3:MCK", 2, 3, codes "MCK", 2)
    ∷ []

abbrev pub spot_tile : Spot → Tile
spot_tile s = record { name = s.0; kind = s.3; place = Some (s.1, s.2); cols = s.4; rows = 8; start_frame = 16 * s.2; start_bit = 8 * s.1 }

-- what it is read as
abbrev pub mini_grid : Grid
mini_grid = record { tiles = map spot_tile spots; height = 3; width = 5 }
