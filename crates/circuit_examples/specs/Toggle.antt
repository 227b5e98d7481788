-- The triplicated toggle: three slices a0, a1 and a2, in each a table that gives the inverted majority of the three
-- registers and a register that takes it; three clock pads k0, k1 and k2; and three output pads o0, o1 and o2, each
-- of which shows the register of its copy. Slice ai stands in column i + 1 of row 1. (Our own.)
use Rattle.std.specs.Prelude.{ℕ, zero, suc, ◌+◌, ◌*◌, Bool, false, not, List, [], ◌∷◌, ◌++◌, filter, ◌==◌, codes}
use Rattle.links.specs.Links.{Link}
use Rattle.records.specs.Side.{Domain, D0, D1, D2, Triple}
use Rattle.circuit.specs.Cells.{TableCell, InputWire, InputZero, InputOne, RegisterCell, SliceCell, OutputPad, ClockPad, PadCell, Cells}
use Rattle.circuit.specs.Parts.{Register}
use Rattle.circuit.specs.Triples.{PartTriple}
use Rattle.circuit.specs.Circuits.{Circuit}
use Rattle.circuit.specs.Faults.{Fault}
use Rattle.mini.specs.Toggle.{triple, toggle_side}

-- the wires of column n: the pins A to D and CK of the slice, its outputs F and Q, and the wires H0 to H4 beside it
abbrev pub a : ℕ → ℕ
a n = 100 * n

abbrev pub b : ℕ → ℕ
b n = 100 * n + 1

abbrev pub c : ℕ → ℕ
c n = 100 * n + 2

abbrev pub d : ℕ → ℕ
d n = 100 * n + 3

abbrev pub ck : ℕ → ℕ
ck n = 100 * n + 4

abbrev pub f : ℕ → ℕ
f n = 100 * n + 5

abbrev pub q : ℕ → ℕ
q n = 100 * n + 6

abbrev pub h0 : ℕ → ℕ
h0 n = 100 * n + 7

abbrev pub h1 : ℕ → ℕ
h1 n = 100 * n + 8

abbrev pub h2 : ℕ → ℕ
h2 n = 100 * n + 9

abbrev pub h3 : ℕ → ℕ
h3 n = 100 * n + 14

abbrev pub h4 : ℕ → ℕ
h4 n = 100 * n + 15

-- the `in` and `out` wires of the pad above, the `in` wire of the clock pad below, and the clock wire that it drives
abbrev pub pi : ℕ → ℕ
pi n = 100 * n + 10

abbrev pub po : ℕ → ℕ
po n = 100 * n + 11

abbrev pub ki : ℕ → ℕ
ki n = 100 * n + 12

abbrev pub g_ck : ℕ → ℕ
g_ck n = 100 * n + 13

abbrev link : ℕ → ℕ → Link
link source sink = record { source = source; sink = sink }

-- the links that each column has
abbrev column : ℕ → List Link
column n = link (q n) (po n) ∷ link (h0 n) (a n) ∷ link (h1 n) (b n) ∷ link (h2 n) (c n) ∷ link (g_ck n) (ck n) ∷ link (ki n) (g_ck n) ∷ []

-- H0 carries the register of column 3 to all, H1 that of column 1, and H2 that of column 2
abbrev pub toggle_links : List Link
toggle_links =
    column 1 ++ column 2 ++ column 3
    ++ (link (h0 2) (h0 1) ∷ link (q 1) (h1 1) ∷ link (h2 2) (h2 1)
    ∷ link (h0 3) (h0 2) ∷ link (h1 1) (h1 2) ∷ link (q 2) (h2 2)
    ∷ link (q 3) (h0 3) ∷ link (h1 2) (h1 3) ∷ link (h2 2) (h2 3) ∷ [])

-- the outputs of all cells: the pads above, the slices, and the clock pads below; those of column 4 have no name
abbrev pub toggle_outputs : List ℕ
toggle_outputs = pi 1 ∷ pi 2 ∷ pi 3 ∷ pi 4 ∷ f 1 ∷ q 1 ∷ f 2 ∷ q 2 ∷ f 3 ∷ q 3 ∷ f 4 ∷ q 4 ∷ ki 1 ∷ ki 2 ∷ ki 3 ∷ []

-- the table and the register of a column
abbrev pub toggle_table : ℕ → ℕ → TableCell
toggle_table n word = record { word = word; pins = a n ∷ b n ∷ c n ∷ d n ∷ []; out = f n }

abbrev pub toggle_register : ℕ → RegisterCell
toggle_register n = record { input = InputWire (f n); enable = InputOne; reset = InputZero; set = false; clock = InputWire (ck n); out = q n }

-- the slice of a copy in its column, with the word of its table
abbrev pub toggle_slice : List ℕ → Domain → ℕ → ℕ → SliceCell
toggle_slice name domain n word = record { name = name; domain = domain; tables = toggle_table n word ∷ []; registers = toggle_register n ∷ []; bits = [] }

abbrev output_pad : List ℕ → Domain → ℕ → PadCell
output_pad name domain n = record { name = name; domain = domain; role = OutputPad; wire = po n; bits = [] }

abbrev clock_pad : List ℕ → Domain → ℕ → PadCell
clock_pad name domain n = record { name = name; domain = domain; role = ClockPad; wire = ki n; bits = [] }

-- the word 0001011100010111, whose highest bit stands first: the inverted majority of the first three pins
abbrev pub inverted_majority : ℕ
inverted_majority = 0x1717

-- the cells, with the word of the first slice
abbrev pub toggle_cells : ℕ → Cells
toggle_cells word = record {
  slices = toggle_slice (codes "a0") D0 1 word ∷ toggle_slice (codes "a1") D1 2 inverted_majority ∷ toggle_slice (codes "a2") D2 3 inverted_majority ∷ [];
  pads =
      clock_pad (codes "k0") D0 1 ∷ clock_pad (codes "k1") D1 2 ∷ clock_pad (codes "k2") D2 3
      ∷ output_pad (codes "o0") D0 1 ∷ output_pad (codes "o1") D1 2 ∷ output_pad (codes "o2") D2 3 ∷ [];
}

-- the toggle where the table of a0 has another word
abbrev pub toggle_with : ℕ → Circuit
toggle_with word = record { routing = record { links = toggle_links; outputs = toggle_outputs }; cells = toggle_cells word; side = toggle_side }

abbrev pub toggle : Circuit
toggle = toggle_with inverted_majority

-- the toggle without the link from the first clock wire to the pin CK of a0
abbrev pub toggle_unclocked : Circuit
toggle_unclocked = record toggle { routing = record { links = filter (λ l. not (l.sink == ck 1)) toggle_links; outputs = toggle_outputs } }

-- The toggle on other wires: in column 3 the pins A and B are reached over H3 and H4, and H4 carries the register of
-- column 1 to it.
abbrev pub rerouted_links : List Link
rerouted_links =
    column 1 ++ column 2
    ++ (link (q 3) (po 3) ∷ link (h3 3) (a 3) ∷ link (h4 3) (b 3) ∷ link (h2 3) (c 3) ∷ link (g_ck 3) (ck 3) ∷ link (ki 3) (g_ck 3)
    ∷ link (h0 2) (h0 1) ∷ link (q 1) (h1 1) ∷ link (h2 2) (h2 1) ∷ link (q 1) (h4 1)
    ∷ link (h0 3) (h0 2) ∷ link (h1 1) (h1 2) ∷ link (q 2) (h2 2) ∷ link (h4 1) (h4 2)
    ∷ link (q 3) (h0 3) ∷ link (q 3) (h3 3) ∷ link (h2 2) (h2 3) ∷ link (h4 2) (h4 3) ∷ [])

abbrev pub toggle_rerouted : Circuit
toggle_rerouted = record toggle { routing = record { links = rerouted_links; outputs = toggle_outputs } }

-- a fault of copy 0: the wires that carry the register of a0, and the cell itself
abbrev pub fault_of_a0 : Fault
fault_of_a0 = record { disturbed = q 1 ∷ h1 1 ∷ h1 2 ∷ h1 3 ∷ []; touched = codes "a0" ∷ [] }

-- a fault of two copies: a wire that carries the register of a0, and one that carries that of a2
abbrev pub fault_of_two : Fault
fault_of_two = record { disturbed = h1 1 ∷ h0 1 ∷ []; touched = [] }

-- the names of the output pads, and the triple of the registers
abbrev pub toggle_pads : Triple
toggle_pads = triple (codes "o0") (codes "o1") (codes "o2")

abbrev pub toggle_registers : PartTriple
toggle_registers = record { cells = triple (codes "a0") (codes "a1") (codes "a2"); part = Register 0 }

-- a bit that is turned in each cycle
abbrev pub turned : ℕ → Bool → Bool
turned zero bit = bit
turned (suc t) bit = not (turned t bit)
