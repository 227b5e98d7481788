-- The corridor on MINI-B: two buffers in three copies, so that pad o shows pad i over the slices u and w, and pad p
-- shows pad j over the slice v. In copy 0 the slice u stands left of v, in copies 1 and 2 right of it. (Our own.)
use Rattle.std.specs.Prelude.{ℕ, true, false, List, [], ◌∷◌, codes}
use Rattle.records.specs.Side.{Domain, D0, D1, D2, Placed, Side}
use Rattle.records.specs.Config.{ArcLine, WordLine, TileText, Config}
use Rattle.mini.specs.Toggle.{line, placed, triple}

-- `10`, written with the highest bit first: the pin itself
abbrev pub buffer_word : WordLine
buffer_word = record { name = codes "S1.K"; bits = false ∷ true ∷ []; line = 0 }

abbrev pub text_of_pad : List ℕ → List ℕ → List ArcLine → TileText
text_of_pad tile mode arcs = record { tile = tile; line = 0; arcs = arcs; words = []; enums = record { name = codes "P1.DIR"; value = mode; line = 0 } ∷ []; unknowns = [] }

-- an input pad, and an output pad with its arcs
abbrev pub input_text : List ℕ → TileText
input_text tile = text_of_pad tile (codes "INPUT") []

abbrev pub output_with : List ℕ → List ArcLine → TileText
output_with tile arcs = text_of_pad tile (codes "OUTPUT") arcs

-- the section of a slice, and one that has arcs alone
abbrev pub buffer_text : List ℕ → List ArcLine → TileText
buffer_text tile arcs = record { tile = tile; line = 0; arcs = arcs; words = buffer_word ∷ []; enums = []; unknowns = [] }

abbrev pub arcs_text : List ℕ → List ArcLine → TileText
arcs_text tile arcs = record { tile = tile; line = 0; arcs = arcs; words = []; enums = []; unknowns = [] }

-- the arc lines of the tiles that have some
abbrev pub shows_table : List ArcLine
shows_table = line (codes "PO") (codes "S1_F") ∷ []

abbrev pub shows_track : List ArcLine
shows_track = line (codes "PO") (codes "S1_U") ∷ []

abbrev pub from_west : List ArcLine
from_west = line (codes "U") (codes "W1_U") ∷ []

-- a slice that reads the pad above it and drives track U
abbrev pub drives_u : List ArcLine
drives_u = line (codes "D") (codes "N1_PI") ∷ line (codes "U") (codes "F") ∷ []

-- one that drives track V, and passes U on or not
abbrev pub drives_v : List ArcLine
drives_v = line (codes "D") (codes "N1_PI") ∷ line (codes "V") (codes "F") ∷ []

abbrev pub drives_v_passes_u : List ArcLine
drives_v_passes_u = line (codes "D") (codes "N1_PI") ∷ line (codes "U") (codes "W1_U") ∷ line (codes "V") (codes "F") ∷ []

-- one that drives U and passes V on
abbrev pub drives_u_passes_v : List ArcLine
drives_u_passes_v = line (codes "D") (codes "N1_PI") ∷ line (codes "U") (codes "F") ∷ line (codes "V") (codes "W1_V") ∷ []

-- one that reads V, and passes both tracks on
abbrev pub reads_v : List ArcLine
reads_v = line (codes "D") (codes "V") ∷ line (codes "U") (codes "W1_U") ∷ line (codes "V") (codes "W1_V") ∷ []

-- the text of the corridor
abbrev pub corridor : Config
corridor = record {
  device = codes "MINI-B";
  heads = [];
  tiles =
      input_text (codes "R0C11:SIO")
      ∷ input_text (codes "R0C12:SIO")
      ∷ output_with (codes "R0C13:SIO") shows_table
      ∷ output_with (codes "R0C14:SIO") shows_track
      ∷ input_text (codes "R0C1:SIO")
      ∷ input_text (codes "R0C2:SIO")
      ∷ output_with (codes "R0C3:SIO") shows_table
      ∷ output_with (codes "R0C4:SIO") shows_track
      ∷ input_text (codes "R0C6:SIO")
      ∷ input_text (codes "R0C7:SIO")
      ∷ output_with (codes "R0C8:SIO") shows_table
      ∷ output_with (codes "R0C9:SIO") shows_track
      ∷ buffer_text (codes "R1C11:SLC") drives_u
      ∷ buffer_text (codes "R1C12:SLC") drives_v_passes_u
      ∷ buffer_text (codes "R1C13:SLC") reads_v
      ∷ arcs_text (codes "R1C14:SLC") from_west
      ∷ buffer_text (codes "R1C1:SLC") drives_v
      ∷ buffer_text (codes "R1C2:SLC") drives_u_passes_v
      ∷ buffer_text (codes "R1C3:SLC") reads_v
      ∷ arcs_text (codes "R1C4:SLC") from_west
      ∷ buffer_text (codes "R1C6:SLC") drives_u
      ∷ buffer_text (codes "R1C7:SLC") drives_v_passes_u
      ∷ buffer_text (codes "R1C8:SLC") reads_v
      ∷ arcs_text (codes "R1C9:SLC") from_west
      ∷ [];
}

abbrev pub placed_slice : List ℕ → List ℕ → Domain → Placed
placed_slice name tile domain = placed name tile (codes "S1") domain

abbrev pub placed_pad : List ℕ → List ℕ → Domain → Placed
placed_pad name tile domain = placed name tile (codes "P1") domain

-- the side file of the corridor
abbrev pub corridor_side : Side
corridor_side = record {
  slices =
      placed_slice (codes "u0") (codes "R1C1:SLC") D0
      ∷ placed_slice (codes "u1") (codes "R1C7:SLC") D1
      ∷ placed_slice (codes "u2") (codes "R1C12:SLC") D2
      ∷ placed_slice (codes "v0") (codes "R1C2:SLC") D0
      ∷ placed_slice (codes "v1") (codes "R1C6:SLC") D1
      ∷ placed_slice (codes "v2") (codes "R1C11:SLC") D2
      ∷ placed_slice (codes "w0") (codes "R1C3:SLC") D0
      ∷ placed_slice (codes "w1") (codes "R1C8:SLC") D1
      ∷ placed_slice (codes "w2") (codes "R1C13:SLC") D2
      ∷ [];
  pads =
      placed_pad (codes "i0") (codes "R0C1:SIO") D0
      ∷ placed_pad (codes "i1") (codes "R0C7:SIO") D1
      ∷ placed_pad (codes "i2") (codes "R0C12:SIO") D2
      ∷ placed_pad (codes "j0") (codes "R0C2:SIO") D0
      ∷ placed_pad (codes "j1") (codes "R0C6:SIO") D1
      ∷ placed_pad (codes "j2") (codes "R0C11:SIO") D2
      ∷ placed_pad (codes "o0") (codes "R0C3:SIO") D0
      ∷ placed_pad (codes "o1") (codes "R0C8:SIO") D1
      ∷ placed_pad (codes "o2") (codes "R0C13:SIO") D2
      ∷ placed_pad (codes "p0") (codes "R0C4:SIO") D0
      ∷ placed_pad (codes "p1") (codes "R0C9:SIO") D1
      ∷ placed_pad (codes "p2") (codes "R0C14:SIO") D2
      ∷ [];
  triples = triple (codes "u0") (codes "u1") (codes "u2") ∷ triple (codes "v0") (codes "v1") (codes "v2") ∷ triple (codes "w0") (codes "w1") (codes "w2") ∷ [];
  inputs = triple (codes "i0") (codes "i1") (codes "i2") ∷ triple (codes "j0") (codes "j1") (codes "j2") ∷ [];
  outputs = triple (codes "o0") (codes "o1") (codes "o2") ∷ triple (codes "p0") (codes "p1") (codes "p2") ∷ [];
  clocks = [];
  voters = [];
}
