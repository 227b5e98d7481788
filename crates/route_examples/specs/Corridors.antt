-- The corridor on MINI-B, ripped whole and routed again, connection by connection.
use Rattle.std.specs.Prelude.{ℕ, ◌+◌, List, [], ◌∷◌, ◌++◌, map, filter, take, ◌==◌, ◌&&◌, codes}
use Rattle.records.specs.Config.{TileText, Config}
use Rattle.records.specs.Side.{Domain}
use Rattle.fabric.specs.Graph.{GraphArc, Graph}
use Rattle.circuit.specs.Parts.{PartRef, Table, Pad, OfTable, OfInput, Source}
use Rattle.circuit.specs.Circuits.{Circuit, Connection}
use Rattle.upset.specs.Configured.{circuit_of}
use Rattle.repair.specs.Layouts.{Layout, configured, with_path}
use Rattle.mini.specs.ToggleCells.{wire_at}
use Rattle.mini_b.specs.Corridor.{corridor, corridor_side}
use Rattle.mini_b.specs.CorridorCells.{corridor_cells}
use Rattle.attempts.specs.Turns.{Cut}

-- a text with the corridor's cells
abbrev pub with_corridor : Graph → Config → Layout
with_corridor g config = record { graph = g; config = config; cells = corridor_cells g; side = corridor_side }

-- the circuit that was read
abbrev pub read : Graph → Circuit
read g = circuit_of (configured (with_corridor g corridor))

-- a section, and a text, without any arc line
abbrev pub section_without_arcs : TileText → TileText
section_without_arcs text = record text { arcs = [] }

abbrev pub without_arcs : Config → Config
without_arcs config = record config { tiles = map section_without_arcs config.tiles }

-- the corridor without its routes
abbrev pub bare : Graph → Layout
bare g = with_corridor g (without_arcs corridor)

-- a table and a pad by the name of the cell, and a connection of theirs
abbrev pub table_of : List ℕ → PartRef
table_of name = record { cell = name; part = Table 0 }

abbrev pub pad_of : List ℕ → PartRef
pad_of name = record { cell = name; part = Pad }

abbrev pub to_pin : PartRef → PartRef → Connection
to_pin source part = record { source = source; pin = record { part = part; pin = 0 } }

-- the fifteen connections in order: the pads to the slices below them and u0 to w0, then v0 to p0, then the others
abbrev pub first_seven : List Connection
first_seven =
    to_pin (pad_of (codes "i0")) (table_of (codes "u0"))
    ∷ to_pin (pad_of (codes "j0")) (table_of (codes "v0"))
    ∷ to_pin (pad_of (codes "j1")) (table_of (codes "v1"))
    ∷ to_pin (pad_of (codes "i1")) (table_of (codes "u1"))
    ∷ to_pin (pad_of (codes "j2")) (table_of (codes "v2"))
    ∷ to_pin (pad_of (codes "i2")) (table_of (codes "u2"))
    ∷ to_pin (table_of (codes "u0")) (table_of (codes "w0"))
    ∷ []

abbrev pub eighth : Connection
eighth = to_pin (table_of (codes "v0")) (pad_of (codes "p0"))

abbrev pub last_seven : List Connection
last_seven =
    to_pin (table_of (codes "w0")) (pad_of (codes "o0"))
    ∷ to_pin (table_of (codes "v1")) (pad_of (codes "p1"))
    ∷ to_pin (table_of (codes "u1")) (table_of (codes "w1"))
    ∷ to_pin (table_of (codes "w1")) (pad_of (codes "o1"))
    ∷ to_pin (table_of (codes "v2")) (pad_of (codes "p2"))
    ∷ to_pin (table_of (codes "u2")) (table_of (codes "w2"))
    ∷ to_pin (table_of (codes "w2")) (pad_of (codes "o2"))
    ∷ []

abbrev pub fifteen : List Connection
fifteen = first_seven ++ eighth ∷ last_seven

-- the net of an input pad, and of a table, by its column
abbrev pub pad_net : Graph → List ℕ → Domain → ℕ → Source
pad_net g name domain column = record { part = pad_of name; domain = domain; kind = OfInput; out = wire_at g 0 column (codes "PI") }

abbrev pub table_net : Graph → List ℕ → Domain → ℕ → Source
table_net g name domain column = record {
  part = table_of name;
  domain = domain;
  kind = OfTable (record { word = 2; pins = wire_at g 1 column (codes "D") ∷ []; out = wire_at g 1 column (codes "F") });
  out = wire_at g 1 column (codes "F");
}

-- the arcs from wire to wire of a list
abbrev pub arcs_through : Graph → List ℕ → List GraphArc
arcs_through g [] = []
arcs_through g (v ∷ []) = []
arcs_through g (v ∷ w ∷ ws) = filter (λ a. (a.source == v) && (a.sink == w)) g.arcs ++ arcs_through g (w ∷ ws)

-- from the pad of a column to the pin below
abbrev pub down : Graph → ℕ → List GraphArc
down g column = arcs_through g (wire_at g 0 column (codes "PI") ∷ wire_at g 1 column (codes "D") ∷ [])

-- from u0 over the track U of columns 1, 2 and 3 to w0
abbrev pub over_u : Graph → List GraphArc
over_u g = arcs_through g (wire_at g 1 1 (codes "F") ∷ wire_at g 1 1 (codes "U") ∷ wire_at g 1 2 (codes "U") ∷ wire_at g 1 3 (codes "U") ∷ wire_at g 1 3 (codes "D") ∷ [])

-- the paths of the first seven connections
abbrev pub ways : Graph → List (List GraphArc)
ways g = down g 1 ∷ down g 2 ∷ down g 6 ∷ down g 7 ∷ down g 11 ∷ down g 12 ∷ over_u g ∷ []

abbrev pub with_ways : Layout → List (List GraphArc) → Layout
with_ways y [] = y
with_ways y (path ∷ rest) = with_ways (with_path y path) rest

-- where so many of the first seven are routed
abbrev pub after : Graph → ℕ → Layout
after g n = with_ways (bare g) (take n (ways g))

-- the cut of the eighth
abbrev pub inside : Graph → List ℕ
inside g =
    wire_at g 0 2 (codes "PO")
    ∷ wire_at g 1 1 (codes "V")
    ∷ wire_at g 1 2 (codes "F")
    ∷ wire_at g 1 2 (codes "V")
    ∷ wire_at g 1 3 (codes "V")
    ∷ wire_at g 1 4 (codes "D")
    ∷ wire_at g 1 4 (codes "V")
    ∷ wire_at g 1 5 (codes "D")
    ∷ wire_at g 1 5 (codes "V")
    ∷ []

abbrev pub rim : Graph → List ℕ
rim g = wire_at g 1 1 (codes "D") ∷ wire_at g 1 2 (codes "D") ∷ wire_at g 1 2 (codes "U") ∷ wire_at g 1 3 (codes "D") ∷ wire_at g 1 6 (codes "V") ∷ []

-- and how its wires print
abbrev pub inside_texts : List (List ℕ)
inside_texts =
    codes "R0C2/PO"
    ∷ codes "R1C1/V"
    ∷ codes "R1C2/F"
    ∷ codes "R1C2/V"
    ∷ codes "R1C3/V"
    ∷ codes "R1C4/D"
    ∷ codes "R1C4/V"
    ∷ codes "R1C5/D"
    ∷ codes "R1C5/V"
    ∷ []

abbrev pub rim_texts : List (List ℕ)
rim_texts = codes "R1C1/D" ∷ codes "R1C2/D" ∷ codes "R1C2/U" ∷ codes "R1C3/D" ∷ codes "R1C6/V" ∷ []

abbrev pub cut : Graph → Cut
cut g = record { inside = inside g; rim = rim g }

-- The paths of the second attempt, which begins with the eighth connection: v0 takes the track U from column 2 on.
abbrev pub v0_over_u : Graph → List GraphArc
v0_over_u g = arcs_through g (wire_at g 1 2 (codes "F") ∷ wire_at g 1 2 (codes "U") ∷ wire_at g 1 3 (codes "U") ∷ wire_at g 1 4 (codes "U") ∷ wire_at g 0 4 (codes "PO") ∷ [])

-- u0 takes the track V
abbrev pub u0_over_v : Graph → List GraphArc
u0_over_v g = arcs_through g (wire_at g 1 1 (codes "F") ∷ wire_at g 1 1 (codes "V") ∷ wire_at g 1 2 (codes "V") ∷ wire_at g 1 3 (codes "V") ∷ wire_at g 1 3 (codes "D") ∷ [])

-- in copies 1 and 2, from the column of v on
abbrev pub to_pad_over_u : Graph → ℕ → List GraphArc
to_pad_over_u g c =
    arcs_through g (wire_at g 1 c (codes "F") ∷ wire_at g 1 c (codes "U") ∷ wire_at g 1 (c + 1) (codes "U") ∷ wire_at g 1 (c + 2) (codes "U") ∷ wire_at g 1 (c + 3) (codes "U") ∷ wire_at g 0 (c + 3) (codes "PO") ∷ [])

-- and from the column of u on
abbrev pub to_pin_over_v : Graph → ℕ → List GraphArc
to_pin_over_v g c = arcs_through g (wire_at g 1 c (codes "F") ∷ wire_at g 1 c (codes "V") ∷ wire_at g 1 (c + 1) (codes "V") ∷ wire_at g 1 (c + 1) (codes "D") ∷ [])

-- from w to the pad above it
abbrev pub up_to_pad : Graph → ℕ → List GraphArc
up_to_pad g c = arcs_through g (wire_at g 1 c (codes "F") ∷ wire_at g 0 c (codes "PO") ∷ [])

abbrev pub second_ways : Graph → List (List GraphArc)
second_ways g =
    v0_over_u g
    ∷ down g 1
    ∷ down g 2
    ∷ down g 6
    ∷ down g 7
    ∷ down g 11
    ∷ down g 12
    ∷ u0_over_v g
    ∷ up_to_pad g 3
    ∷ to_pad_over_u g 6
    ∷ to_pin_over_v g 7
    ∷ up_to_pad g 8
    ∷ to_pad_over_u g 11
    ∷ to_pin_over_v g 12
    ∷ up_to_pad g 13
    ∷ []
