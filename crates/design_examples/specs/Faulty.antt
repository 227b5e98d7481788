-- Inputs in which two faults stand together. (Our own.)
use Rattle.std.specs.Prelude.{ℕ, true, false, List, [], ◌∷◌, Option, Some, None, codes, if◌then◌else◌}
use Rattle.std.specs.Str.{bytes_eq}
use Rattle.records.specs.Config.{ArcLine, WordLine, EnumLine, UnknownLine, TileText, Config}
use Rattle.commands.specs.Commands.{Inputs}
use Rattle.design_files.specs.Parsed.{Files}

abbrev pub inputs : Inputs
inputs = record { family = codes "f"; profile = codes "p"; side = codes "s"; config = codes "c" }

-- the configuration, the grid of its device, the profile and the side file by their names, and no database
abbrev pub files_of : Option (List ℕ) → Option (List ℕ) → Option (List ℕ) → Option (List ℕ) → Files
files_of config grid profile side name =
    if bytes_eq name (codes "c") then config
    else if bytes_eq name (codes "f/D/tilegrid.json") then grid
    else if bytes_eq name (codes "p") then profile
    else if bytes_eq name (codes "s") then side
    else None

abbrev pub good_config : Option (List ℕ)
good_config = Some (codes ".device D\n")

abbrev pub good_grid : Option (List ℕ)
good_grid = Some (codes "{}")

-- a grid of one tile, a profile without kinds, and a side file without cells
abbrev pub one_tile : Option (List ℕ)
one_tile = Some (codes "{\"R0C0:T\":{\"cols\":1,\"rows\":1,\"start_bit\":0,\"start_frame\":0,\"type\":\"T\"}}")

abbrev pub no_kinds : Option (List ℕ)
no_kinds = Some (codes "{\"chip_prefix\":\"\",\"other_chips\":[],\"wide\":[],\"joins\":[],\"slices\":[],\"pads\":[]}")

abbrev pub no_cells : Option (List ℕ)
no_cells = Some (codes "{\"clocks\":[],\"inputs\":[],\"outputs\":[],\"pads\":[],\"slices\":[],\"triples\":[],\"voters\":[]}")

-- files beside a database of the tile's type, whose second line is no line of a database
abbrev pub with_faulty_database : Files → Files
with_faulty_database files name = if bytes_eq name (codes "f/tiledata/T/bits.db") then Some (codes ".mux W\n.rest\n") else files name

-- the arc, word, enum and unknown lines of one section, each with its number
abbrev pub section : List ℕ → List ArcLine → List WordLine → List EnumLine → List UnknownLine → TileText
section tile arcs words enums unknowns = record { tile = tile; line = 2; arcs = arcs; words = words; enums = enums; unknowns = unknowns }

abbrev pub config_with : List TileText → Config
config_with tiles = record { device = codes "MINI-A"; heads = []; tiles = tiles }

abbrev pub arc_at : ℕ → List ℕ → List ℕ → ArcLine
arc_at line sink source = record { sink = sink; source = source; line = line }

-- a word of two bits, where sixteen belong
abbrev pub short_word : ℕ → WordLine
short_word line = record { name = codes "S0.K"; bits = true ∷ false ∷ []; line = line }

-- an arc of no mux behind a word of the wrong length: written order has arcs first, and the lower line decides
abbrev pub word_before_arc : Config
word_before_arc = config_with (section (codes "R1C1:MLC") (arc_at 4 (codes "X") (codes "H0") ∷ []) (short_word 3 ∷ []) [] [] ∷ [])

-- the same lines, the other way round
abbrev pub arc_before_word : Config
arc_before_word = config_with (section (codes "R1C1:MLC") (arc_at 3 (codes "X") (codes "H0") ∷ []) (short_word 4 ∷ []) [] [] ∷ [])

-- lines of one number, as where numbers stand still: an arc of no source, and a bit outside the tile
abbrev pub one_number : Config
one_number = config_with (section (codes "R1C1:MLC") (arc_at 9 (codes "A") (codes "H1") ∷ []) [] [] (record { frame = 11; bit = 0; line = 9 } ∷ []) ∷ [])

-- a section of a tile that isn't there, behind an enum without such a value
abbrev pub no_tile : Config
no_tile = config_with (
    section (codes "R1C1:MLC") [] [] (record { name = codes "S0.MODE"; value = codes "X"; line = 7 } ∷ []) []
    ∷ record { tile = codes "R9C9:MLC"; line = 5; arcs = []; words = []; enums = []; unknowns = [] }
    ∷ [])
