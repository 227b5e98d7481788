-- A small device with two tiles for slices and a pad, on which one flip joins the way to the first slice, and the way to
-- the pad, to another copy; and the second tile has a way of its own. (Our own.)
use Rattle.std.specs.Prelude.{ℕ, true, false, List, [], ◌∷◌, Some, None, codes}
use Rattle.patterns.specs.Bits.{PatternBit}
use Rattle.records.specs.Config.{ArcLine, WordLine, TileText, Config}
use Rattle.records.specs.Database.{Arc, Mux, TileDb}
use Rattle.records.specs.Grid.{Tile}
use Rattle.records.specs.Profile.{TakeIn, TakeOut, Take, Choice, SliceKind, PadKind}
use Rattle.records.specs.Side.{D0, D1, Placed, Triple, Side}
use Rattle.fabric.specs.Device.{Device}
use Rattle.fabric.specs.Graph.{Graph}
use Rattle.fabric.specs.Image.{image_of}
use Rattle.fabric_laws.specs.PlainGraph.{graph_of}
use Rattle.circuit.specs.Cells.{Cells}
use Rattle.cells.specs.CellsOf.{slice_cells, pad_cells}
use Rattle.repair.specs.Layouts.{Layout}

abbrev pub bit : ℕ → PatternBit
bit b = record { frame = 0; bit = b; set = true }

abbrev pub from : List ℕ → ℕ → Arc
from source b = record { source = source; bits = bit b ∷ [] }

-- a mux that takes the wire of one pad, or also that of the other
abbrev pub one_way : List ℕ → Mux
one_way sink = record { sink = sink; arcs = from (codes "G_I") 0 ∷ [] }

abbrev pub two_ways : List ℕ → Mux
two_ways sink = record { sink = sink; arcs = from (codes "G_I") 0 ∷ from (codes "G_J") 1 ∷ [] }

-- a slice's tile: pin A and a word of two bits
abbrev pub slice_db : Mux → TileDb
slice_db mux = record { muxes = mux ∷ []; words = record { name = codes "S.K"; bits = (bit 2 ∷ []) ∷ (bit 3 ∷ []) ∷ [] } ∷ []; enums = []; fixed = [] }

-- an input pad's tile: the pad drives a wire of the whole device
abbrev pub input_db : List ℕ → TileDb
input_db wide = record { muxes = []; words = []; enums = []; fixed = record { sink = wide; source = codes "IN" } ∷ [] }

abbrev pub output_db : TileDb
output_db = record { muxes = two_ways (codes "OUT") ∷ []; words = []; enums = []; fixed = [] }

abbrev pub always : Take → Choice
always take = record { setting = None; cases = record { value = None; take = take } ∷ [] }

-- the kind of slices of a tile type: a table of one pin
abbrev pub slice_kind : List ℕ → SliceKind
slice_kind tile = record {
  tile = tile;
  name = codes "S";
  shape = codes "L";
  settings = codes "S.K" ∷ [];
  require = [];
  tables = record { word = codes "S.K"; pins = codes "A" ∷ []; out = codes "F" } ∷ [];
  registers = [];
}

abbrev pub input_kind : List ℕ → PadKind
input_kind tile = record { tile = tile; name = codes "P"; settings = []; mode = always TakeIn; in_wire = Some (codes "IN"); out_wire = None }

abbrev pub output_kind : PadKind
output_kind = record { tile = codes "O"; name = codes "P"; settings = []; mode = always TakeOut; in_wire = None; out_wire = Some (codes "OUT") }

abbrev pub first_tile : Tile
first_tile = record { name = codes "R0C0:L"; kind = codes "L"; place = Some (0, 0); cols = 1; rows = 4; start_frame = 0; start_bit = 0 }

abbrev pub second_tile : Tile
second_tile = record { name = codes "R0C1:M"; kind = codes "M"; place = Some (0, 1); cols = 1; rows = 4; start_frame = 1; start_bit = 0 }

abbrev pub i_tile : Tile
i_tile = record { name = codes "R1C0:I"; kind = codes "I"; place = Some (1, 0); cols = 1; rows = 4; start_frame = 2; start_bit = 0 }

abbrev pub j_tile : Tile
j_tile = record { name = codes "R1C1:J"; kind = codes "J"; place = Some (1, 1); cols = 1; rows = 4; start_frame = 3; start_bit = 0 }

abbrev pub o_tile : Tile
o_tile = record { name = codes "R2C0:O"; kind = codes "O"; place = Some (2, 0); cols = 1; rows = 4; start_frame = 4; start_bit = 0 }

abbrev pub first_kind : SliceKind
first_kind = slice_kind (codes "L")

abbrev pub second_kind : SliceKind
second_kind = slice_kind (codes "M")

abbrev pub device : Device
device = record {
  grid = record { tiles = first_tile ∷ second_tile ∷ i_tile ∷ j_tile ∷ o_tile ∷ []; height = 3; width = 2 };
  types =
      record { kind = codes "I"; db = input_db (codes "G_I") }
      ∷ record { kind = codes "J"; db = input_db (codes "G_J") }
      ∷ record { kind = codes "L"; db = slice_db (two_ways (codes "A")) }
      ∷ record { kind = codes "M"; db = slice_db (one_way (codes "A")) }
      ∷ record { kind = codes "O"; db = output_db }
      ∷ [];
  profile = record {
    rules = record { chip_prefix = None; other_chips = []; wide = codes "G_" ∷ [] };
    joins = [];
    slices = first_kind ∷ second_kind ∷ [];
    pads = input_kind (codes "I") ∷ input_kind (codes "J") ∷ output_kind ∷ [];
  };
}

abbrev pub graph : Graph
graph = graph_of device

abbrev pub line : List ℕ → List ℕ → ArcLine
line sink source = record { sink = sink; source = source; line = 0 }

abbrev pub text : List ℕ → List ArcLine → List WordLine → TileText
text tile arcs words = record { tile = tile; line = 0; arcs = arcs; words = words; enums = []; unknowns = [] }

-- a table that gives the opposite of what it reads
abbrev pub word : WordLine
word = record { name = codes "S.K"; bits = true ∷ false ∷ []; line = 0 }

abbrev pub config_with : List TileText → Config
config_with tiles = record { device = codes "JOINED"; heads = []; tiles = tiles }

-- a slice, and the pads i and j of two copies with an output pad o
abbrev pub placed : List ℕ → List ℕ → Placed
placed name tile = record { name = name; tile = tile; kind = codes "S"; domain = D0 }

abbrev pub all_of : List ℕ → Triple
all_of name = record { first = name; second = name; third = name }

abbrev pub side_with : List Placed → Side
side_with slices = record {
  slices = slices;
  pads =
      record { name = codes "i"; tile = i_tile.name; kind = codes "P"; domain = D0 }
      ∷ record { name = codes "j"; tile = j_tile.name; kind = codes "P"; domain = D1 }
      ∷ record { name = codes "o"; tile = o_tile.name; kind = codes "P"; domain = D0 }
      ∷ [];
  triples = [];
  inputs = all_of (codes "i") ∷ all_of (codes "j") ∷ [];
  outputs = all_of (codes "o") ∷ [];
  clocks = [];
  voters = [];
}

abbrev pub cells_at : Config → Side → Cells
cells_at config side = record { slices = slice_cells graph device.profile (image_of graph config) side; pads = pad_cells graph device.profile side }

abbrev pub layout_at : Config → Side → Layout
layout_at config side = record { graph = graph; config = config; cells = cells_at config side; side = side }
