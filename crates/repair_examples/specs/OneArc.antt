-- The smallest design that can be repaired: a tile in which one arc leads from an input pad's wire S to an output
-- pad's wire W. Only the first copy of a triplicated design stands here.
use Rattle.std.specs.Prelude.{true, List, [], ◌∷◌, Some, None, codes}
use Rattle.patterns.specs.Bits.{DeviceBit, PatternBit}
use Rattle.records.specs.Config.{ArcLine, TileText, Config}
use Rattle.records.specs.Profile.{TakeIn, TakeOut, Take, Choice}
use Rattle.records.specs.Side.{D0, Side}
use Rattle.fabric.specs.Device.{Device}
use Rattle.fabric.specs.Graph.{GraphArc, Graph}
use Rattle.circuit.specs.Cells.{InputPad, OutputPad, Cells}
use Rattle.circuit.specs.Parts.{OfInput, Pad, Source}
use Rattle.circuit.specs.Circuits.{Circuit}
use Rattle.fabric_laws.specs.PlainGraph.{graph_of}
use Rattle.upset.specs.Configured.{circuit_of}
use Rattle.repair.specs.Layouts.{Layout, configured, NetPath}

abbrev pub only_bit : PatternBit
only_bit = record { frame = 0; bit = 0; set = true }

abbrev pub always : Take → Choice
always take = record { setting = None; cases = record { value = None; take = take } ∷ [] }

abbrev pub one_arc : Device
one_arc = record {
  grid = record {
    tiles = record { name = codes "R0C0:T"; kind = codes "T"; place = Some (0, 0); cols = 1; rows = 1; start_frame = 0; start_bit = 0 } ∷ [];
    height = 1;
    width = 1;
  };
  types =
      record {
        kind = codes "T";
        db = record { muxes = record { sink = codes "W"; arcs = record { source = codes "S"; bits = only_bit ∷ [] } ∷ [] } ∷ []; words = []; enums = []; fixed = [] };
      } ∷ [];
  profile = record {
    rules = record { chip_prefix = None; other_chips = []; wide = [] };
    joins = [];
    slices = [];
    pads =
        record { tile = codes "T"; name = codes "I"; settings = []; mode = always TakeIn; in_wire = Some (codes "S"); out_wire = None }
        ∷ record { tile = codes "T"; name = codes "O"; settings = []; mode = always TakeOut; in_wire = None; out_wire = Some (codes "W") }
        ∷ [];
  };
}

-- its graph, with wire S of number 0 and wire W of number 1, and its arc
abbrev pub graph : Graph
graph = graph_of one_arc

abbrev pub no_origin : DeviceBit
no_origin = record { frame = 0; bit = 0 }

abbrev pub the_arc : GraphArc
the_arc = record { mux = 0; place = 0; source = 0; sink = 1; origin = no_origin; arc = record { source = codes "S"; bits = only_bit ∷ [] } }

abbrev pub cells : Cells
cells = record {
  slices = [];
  pads =
      record { name = codes "i0"; domain = D0; role = InputPad; wire = 0; bits = [] }
      ∷ record { name = codes "o0"; domain = D0; role = OutputPad; wire = 1; bits = [] }
      ∷ [];
}

abbrev pub side : Side
side = record {
  slices = [];
  pads =
      record { name = codes "i0"; tile = codes "R0C0:T"; kind = codes "I"; domain = D0 }
      ∷ record { name = codes "o0"; tile = codes "R0C0:T"; kind = codes "O"; domain = D0 }
      ∷ [];
  triples = [];
  inputs = [];
  outputs = [];
  clocks = [];
  voters = [];
}

-- the net of the input pad
abbrev pub net : Source
net = record { part = record { cell = codes "i0"; part = Pad }; domain = D0; kind = OfInput; out = 0 }

abbrev pub section : List ArcLine → TileText
section arcs = record { tile = codes "R0C0:T"; line = 0; arcs = arcs; words = []; enums = []; unknowns = [] }

abbrev pub text : List ArcLine → Config
text arcs = record { device = codes "ONE"; heads = []; tiles = section arcs ∷ [] }

abbrev pub the_line : ArcLine
the_line = record { sink = codes "W"; source = codes "S"; line = 0 }

-- the design with its arc, and without
abbrev pub routed : Layout
routed = record { graph = graph; config = text (the_line ∷ []); cells = cells; side = side }

abbrev pub bare : Layout
bare = record { graph = graph; config = text []; cells = cells; side = side }

-- the circuit that was read
abbrev pub read : Circuit
read = circuit_of (configured routed)

-- the path from the input pad to the output pad
abbrev pub way : NetPath
way = record { net = net; path = the_arc ∷ []; pin = 1 }
