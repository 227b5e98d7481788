-- MINI-B, a made-up device of two rows and fourteen columns: pads in row 0 and slices of one pin in row 1, with two
-- tracks along the row. Its profile is that of MINI-A with three more kinds. (Our own.)
use Rattle.std.specs.Prelude.{ℕ, List, [], ◌∷◌, ◌++◌, map, Some, codes}
use Rattle.records.specs.Database.{Mux, TileDb}
use Rattle.records.specs.Grid.{Tile}
use Rattle.records.specs.Profile.{TakeOff, TakeIn, TakeOut, SliceKind, PadKind, Profile}
use Rattle.fabric.specs.Device.{Device}
use Rattle.mini.specs.MiniA.{at, arc, mux, profile, tile}

-- a track that is driven from the table or from the same track of a neighbour
abbrev pub buffer_track : List ℕ → ℕ → Mux
buffer_track track f =
    mux track (
    arc (codes "F") (at f 0 ∷ at f 1 ∷ [])
    ∷ arc (codes "W1_" ++ track) (at f 2 ∷ [])
    ∷ arc (codes "E1_" ++ track) (at f 3 ∷ [])
    ∷ [])

-- a slice's tile: one pin and two tracks
abbrev pub slc : TileDb
slc = record {
  muxes =
      mux (codes "D") (arc (codes "N1_PI") (at 1 0 ∷ []) ∷ arc (codes "U") (at 1 1 ∷ []) ∷ arc (codes "V") (at 1 2 ∷ []) ∷ [])
      ∷ buffer_track (codes "U") 2
      ∷ buffer_track (codes "V") 3
      ∷ [];
  words = record { name = codes "S1.K"; bits = (at 0 0 ∷ []) ∷ (at 0 1 ∷ []) ∷ [] } ∷ [];
  enums = [];
  fixed = [];
}

-- a pad's tile: the pad shows the table or the track U below it
abbrev pub sio : TileDb
sio = record {
  muxes = mux (codes "PO") (arc (codes "S1_F") (at 0 0 ∷ at 0 1 ∷ []) ∷ arc (codes "S1_U") (at 0 2 ∷ []) ∷ []) ∷ [];
  words = [];
  enums =
      record {
        name = codes "P1.DIR";
        default = Some (codes "NONE");
        options = record { value = codes "NONE"; bits = [] } ∷ record { value = codes "INPUT"; bits = at 1 0 ∷ [] } ∷ record { value = codes "OUTPUT"; bits = at 1 1 ∷ [] } ∷ [];
      } ∷ [];
  fixed = [];
}

-- the kind of MINI-A's slices in tiles of another type
abbrev pub in_mld : SliceKind → SliceKind
in_mld kind = record kind { tile = codes "MLD" }

-- a slice with a table of one pin
abbrev pub buffer_kind : SliceKind
buffer_kind = record {
  tile = codes "SLC";
  name = codes "S1";
  shape = codes "B";
  settings = codes "S1.K" ∷ [];
  require = [];
  tables = record { word = codes "S1.K"; pins = codes "D" ∷ []; out = codes "F" } ∷ [];
  registers = [];
}

abbrev pub pad_kind : PadKind
pad_kind = record {
  tile = codes "SIO";
  name = codes "P1";
  settings = codes "P1.DIR" ∷ [];
  mode = record {
    setting = Some (codes "P1.DIR");
    cases = record { value = Some (codes "NONE"); take = TakeOff } ∷ record { value = Some (codes "INPUT"); take = TakeIn } ∷ record { value = Some (codes "OUTPUT"); take = TakeOut } ∷ [];
  };
  in_wire = Some (codes "PI");
  out_wire = Some (codes "PO");
}

-- the kinds of all small devices
abbrev pub mini_profile : Profile
mini_profile = record profile { slices = profile.slices ++ map in_mld profile.slices ++ buffer_kind ∷ []; pads = profile.pads ++ pad_kind ∷ [] }

-- the columns in byte order of their names in a tile's name, where `:` comes behind the digits
abbrev pub columns : List (List ℕ × ℕ)
columns =
    (codes "10", 10)
    ∷ (codes "11", 11)
    ∷ (codes "12", 12)
    ∷ (codes "13", 13)
    ∷ (codes "14", 14)
    ∷ (codes "1", 1)
    ∷ (codes "2", 2)
    ∷ (codes "3", 3)
    ∷ (codes "4", 4)
    ∷ (codes "5", 5)
    ∷ (codes "6", 6)
    ∷ (codes "7", 7)
    ∷ (codes "8", 8)
    ∷ (codes "9", 9)
    ∷ []

abbrev pub pad_tile : List ℕ × ℕ → Tile
pad_tile c = tile (codes "R0C" ++ c.0 ++ codes ":SIO") (codes "SIO") 0 c.1 2

abbrev pub slice_tile : List ℕ × ℕ → Tile
slice_tile c = tile (codes "R1C" ++ c.0 ++ codes ":SLC") (codes "SLC") 1 c.1 4

abbrev pub mini_b : Device
mini_b = record {
  grid = record { tiles = map pad_tile columns ++ map slice_tile columns; height = 2; width = 15 };
  types = record { kind = codes "SIO"; db = sio } ∷ record { kind = codes "SLC"; db = slc } ∷ [];
  profile = mini_profile;
}
