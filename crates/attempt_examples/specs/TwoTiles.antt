-- A small device with two tiles for one kind of slice and a clock pad, and a slice on it that toggles. Only the first
-- copy of a triplicated design stands here. (Our own.)
use Rattle.std.specs.Prelude.{ℕ, true, false, List, [], ◌∷◌, Some, None, codes}
use Rattle.patterns.specs.Bits.{PatternBit}
use Rattle.records.specs.Config.{ArcLine, WordLine, TileText, Config}
use Rattle.records.specs.Database.{Mux, TileDb}
use Rattle.records.specs.Grid.{Tile}
use Rattle.records.specs.Profile.{TakeWire, TakeZero, TakeOne, TakeOff, TakeIn, Take, Choice, SliceKind}
use Rattle.records.specs.Side.{D0, Side}
use Rattle.records.specs.Ripping.{RipUnsafe, RipAll}
use Rattle.fabric.specs.Device.{Device}
use Rattle.fabric.specs.Graph.{Graph}
use Rattle.fabric.specs.Image.{image_of}
use Rattle.fabric_laws.specs.PlainGraph.{graph_of}
use Rattle.circuit.specs.Cells.{Cells}
use Rattle.circuit.specs.Parts.{Table, Register, Pad, PartRef}
use Rattle.circuit.specs.Circuits.{Connection}
use Rattle.cells.specs.CellsOf.{slice_cells, pad_cells}
use Rattle.cells.specs.Sites.{Site}
use Rattle.repair.specs.Layouts.{Layout}
use Rattle.attempts.specs.Jobs.{Job, State}
use Rattle.attempts.specs.Candidates.{Step}

abbrev pub bit : ℕ → PatternBit
bit b = record { frame = 0; bit = b; set = true }

-- a mux with one arc
abbrev pub one_arc : List ℕ → List ℕ → ℕ → Mux
one_arc sink source b = record { sink = sink; arcs = record { source = source; bits = bit b ∷ [] } ∷ [] }

-- a slice's tile: pin A takes the register, pin CK the clock, and the table has two bits
abbrev pub slice_db : TileDb
slice_db = record {
  muxes = one_arc (codes "A") (codes "Q") 0 ∷ one_arc (codes "CK") (codes "G_CK") 1 ∷ [];
  words = record { name = codes "S.K"; bits = (bit 2 ∷ []) ∷ (bit 3 ∷ []) ∷ [] } ∷ [];
  enums = [];
  fixed = [];
}

-- the clock pad's tile
abbrev pub clock_db : TileDb
clock_db = record {
  muxes = one_arc (codes "G_CK") (codes "KI") 0 ∷ [];
  words = [];
  enums =
      record {
        name = codes "K.DIR";
        default = Some (codes "NONE");
        options = record { value = codes "NONE"; bits = [] } ∷ record { value = codes "INPUT"; bits = bit 1 ∷ [] } ∷ [];
      } ∷ [];
  fixed = [];
}

abbrev pub always : Take → Choice
always take = record { setting = None; cases = record { value = None; take = take } ∷ [] }

-- a table that is read by a register
abbrev pub the_kind : SliceKind
the_kind = record {
  tile = codes "L";
  name = codes "S";
  shape = codes "L";
  settings = codes "S.K" ∷ [];
  require = [];
  tables = record { word = codes "S.K"; pins = codes "A" ∷ []; out = codes "F" } ∷ [];
  registers =
      record {
        input = always (TakeWire (codes "F"));
        enable = always TakeOne;
        reset = always TakeZero;
        set = always TakeZero;
        clock = always (TakeWire (codes "CK"));
        out = codes "Q";
      } ∷ [];
}

abbrev pub first_tile : Tile
first_tile = record { name = codes "R0C0:L"; kind = codes "L"; place = Some (0, 0); cols = 1; rows = 4; start_frame = 0; start_bit = 0 }

abbrev pub second_tile : Tile
second_tile = record { name = codes "R0C1:L"; kind = codes "L"; place = Some (0, 1); cols = 1; rows = 4; start_frame = 1; start_bit = 0 }

abbrev pub clock_tile : Tile
clock_tile = record { name = codes "R1C0:K"; kind = codes "K"; place = Some (1, 0); cols = 1; rows = 4; start_frame = 0; start_bit = 4 }

abbrev pub two_tiles : Device
two_tiles = record {
  grid = record { tiles = first_tile ∷ second_tile ∷ clock_tile ∷ []; height = 2; width = 2 };
  types = record { kind = codes "L"; db = slice_db } ∷ record { kind = codes "K"; db = clock_db } ∷ [];
  profile = record {
    rules = record { chip_prefix = None; other_chips = []; wide = codes "G_" ∷ [] };
    joins = [];
    slices = the_kind ∷ [];
    pads =
        record {
          tile = codes "K";
          name = codes "P";
          settings = codes "K.DIR" ∷ [];
          mode = record {
            setting = Some (codes "K.DIR");
            cases = record { value = Some (codes "NONE"); take = TakeOff } ∷ record { value = Some (codes "INPUT"); take = TakeIn } ∷ [];
          };
          in_wire = Some (codes "KI");
          out_wire = None;
        } ∷ [];
  };
}

abbrev pub graph : Graph
graph = graph_of two_tiles

abbrev pub line : List ℕ → List ℕ → ArcLine
line sink source = record { sink = sink; source = source; line = 0 }

-- the table gives the opposite of what it reads
abbrev pub word : WordLine
word = record { name = codes "S.K"; bits = true ∷ false ∷ []; line = 0 }

abbrev pub slice_text : List ℕ → List ArcLine → List WordLine → TileText
slice_text tile arcs words = record { tile = tile; line = 0; arcs = arcs; words = words; enums = []; unknowns = [] }

abbrev pub clock_text : TileText
clock_text = record {
  tile = codes "R1C0:K";
  line = 0;
  arcs = line (codes "G_CK") (codes "KI") ∷ [];
  words = [];
  enums = record { name = codes "K.DIR"; value = codes "INPUT"; line = 0 } ∷ [];
  unknowns = [];
}

abbrev pub config_with : List TileText → Config
config_with slices = record { device = codes "TWO"; heads = []; tiles = slices }

-- the design: the slice in the first tile reads its own register
abbrev pub design_text : Config
design_text = config_with (slice_text (codes "R0C0:L") (line (codes "A") (codes "Q") ∷ line (codes "CK") (codes "G_CK") ∷ []) (word ∷ []) ∷ clock_text ∷ [])

-- what is left when the slice moves, and the moved text
abbrev pub rest_text : Config
rest_text = config_with (slice_text (codes "R0C0:L") [] (word ∷ []) ∷ clock_text ∷ [])

abbrev pub moved_text : Config
moved_text = config_with (slice_text (codes "R0C0:L") [] [] ∷ slice_text (codes "R0C1:L") [] (word ∷ []) ∷ clock_text ∷ [])

-- the side file with the slice in a tile
abbrev pub side_at : List ℕ → Side
side_at tile = record {
  slices = record { name = codes "a"; tile = tile; kind = codes "S"; domain = D0 } ∷ [];
  pads = record { name = codes "k"; tile = codes "R1C0:K"; kind = codes "P"; domain = D0 } ∷ [];
  triples = [];
  inputs = [];
  outputs = [];
  clocks = record { first = codes "k"; second = codes "k"; third = codes "k" } ∷ [];
  voters = [];
}

abbrev pub cells_at : Config → Side → Cells
cells_at config side = record { slices = slice_cells graph two_tiles.profile (image_of graph config) side; pads = pad_cells graph two_tiles.profile side }

abbrev pub layout_at : Config → Side → Layout
layout_at config side = record { graph = graph; config = config; cells = cells_at config side; side = side }

abbrev pub design : Layout
design = layout_at design_text (side_at (codes "R0C0:L"))

abbrev pub moved : Layout
moved = layout_at moved_text (side_at (codes "R0C1:L"))

abbrev pub job : Job
job = record { device = two_tiles; design = design; rounds = 32; rip = RipUnsafe }

abbrev pub state : State
state = record { layout = design; order = []; rims = []; moved = []; sides = design.side ∷ [] }

abbrev pub old_site : Site SliceKind
old_site = record { number = 0; tile = first_tile; kind = the_kind }

abbrev pub new_site : Site SliceKind
new_site = record { number = 1; tile = second_tile; kind = the_kind }

abbrev pub table : PartRef
table = record { cell = codes "a"; part = Table 0 }

abbrev pub register : PartRef
register = record { cell = codes "a"; part = Register 0 }

abbrev pub clock : PartRef
clock = record { cell = codes "k"; part = Pad }

-- the connections of the design: from the table to the register's data, from the register to the table, and the clock
abbrev pub to_data : Connection
to_data = record { source = table; pin = record { part = register; pin = 0 } }

abbrev pub to_table : Connection
to_table = record { source = register; pin = record { part = table; pin = 0 } }

abbrev pub to_clock : Connection
to_clock = record { source = clock; pin = record { part = register; pin = 3 } }

-- the move to the second tile, which rips all three
abbrev pub step : Step
step = record {
  move = record { slice = codes "a"; tile = codes "R0C1:L"; kind = codes "S" };
  layout = moved;
  ripped = to_data ∷ to_table ∷ to_clock ∷ [];
}

-- the design as one of which all nets but the clock's are ripped, and where its attempts start: without the route of
-- the register
abbrev pub ripped_job : Job
ripped_job = record { device = two_tiles; design = design; rounds = 32; rip = RipAll }

abbrev pub ripped_text : Config
ripped_text = config_with (slice_text (codes "R0C0:L") (line (codes "CK") (codes "G_CK") ∷ []) (word ∷ []) ∷ clock_text ∷ [])

abbrev pub ripped_layout : Layout
ripped_layout = record { graph = graph; config = ripped_text; cells = design.cells; side = design.side }

abbrev pub ripped_state : State
ripped_state = record { layout = ripped_layout; order = to_data ∷ to_table ∷ []; rims = []; moved = []; sides = design.side ∷ [] }
