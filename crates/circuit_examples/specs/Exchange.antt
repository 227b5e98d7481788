-- Copies with exchanged pins: slices f0, f1 and f2, in each a table that gives x and not y, where x and y are input
-- triples, and an output pad of each copy that shows it. In f1 the pins of x and y are exchanged, and so is the
-- word. The other two pins of each table are open. (Our own.)
use Rattle.std.specs.Prelude.{ℕ, ◌+◌, ◌*◌, List, [], ◌∷◌, ◌++◌, codes}
use Rattle.links.specs.Links.{Link}
use Rattle.records.specs.Side.{Domain, D0, D1, D2, Placed, Triple, Side}
use Rattle.circuit.specs.Cells.{TableCell, SliceCell, Role, InputPad, OutputPad, PadCell, Cells}
use Rattle.circuit.specs.Circuits.{Circuit}

-- the wires of copy n: the pins of its table for x and y, two open ones, its output, the input pads, and the output pad
abbrev of_x : ℕ → ℕ
of_x n = 10 * n

abbrev of_y : ℕ → ℕ
of_y n = 10 * n + 1

abbrev open_1 : ℕ → ℕ
open_1 n = 10 * n + 2

abbrev open_2 : ℕ → ℕ
open_2 n = 10 * n + 3

abbrev pub out : ℕ → ℕ
out n = 10 * n + 4

abbrev x : ℕ → ℕ
x n = 10 * n + 5

abbrev y : ℕ → ℕ
y n = 10 * n + 6

abbrev pub shown : ℕ → ℕ
shown n = 10 * n + 7

abbrev link : ℕ → ℕ → Link
link source sink = record { source = source; sink = sink }

abbrev copy_links : ℕ → List Link
copy_links n = link (x n) (of_x n) ∷ link (y n) (of_y n) ∷ link (out n) (shown n) ∷ []

-- the table of copy n with the word, and its pins at x and y or at y and x
abbrev pub straight_table : ℕ → ℕ → TableCell
straight_table n word = record { word = word; pins = of_x n ∷ of_y n ∷ open_1 n ∷ open_2 n ∷ []; out = out n }

abbrev pub crossed_table : ℕ → ℕ → TableCell
crossed_table n word = record { word = word; pins = of_y n ∷ of_x n ∷ open_1 n ∷ open_2 n ∷ []; out = out n }

abbrev pub table_slice : List ℕ → Domain → TableCell → SliceCell
table_slice name domain table = record { name = name; domain = domain; tables = table ∷ []; registers = []; bits = [] }

abbrev pad : List ℕ → Domain → Role → ℕ → PadCell
pad name domain role wire = record { name = name; domain = domain; role = role; wire = wire; bits = [] }

abbrev placed : List ℕ → Domain → Placed
placed name domain = record { name = name; tile = []; kind = []; domain = domain }

abbrev triple : List ℕ → List ℕ → List ℕ → Triple
triple u v w = record { first = u; second = v; third = w }

-- with the word of the table of f2
abbrev pub exchange_cells : ℕ → Cells
exchange_cells word = record {
  slices = table_slice (codes "f0") D0 (straight_table 0 0x2222) ∷ table_slice (codes "f1") D1 (crossed_table 1 0x4444) ∷ table_slice (codes "f2") D2 (straight_table 2 word) ∷ [];
  pads =
      pad (codes "o0") D0 OutputPad (shown 0) ∷ pad (codes "o1") D1 OutputPad (shown 1) ∷ pad (codes "o2") D2 OutputPad (shown 2)
      ∷ pad (codes "x0") D0 InputPad (x 0) ∷ pad (codes "x1") D1 InputPad (x 1) ∷ pad (codes "x2") D2 InputPad (x 2)
      ∷ pad (codes "y0") D0 InputPad (y 0) ∷ pad (codes "y1") D1 InputPad (y 1) ∷ pad (codes "y2") D2 InputPad (y 2) ∷ [];
}

abbrev pub exchange_side : Side
exchange_side = record {
  slices = placed (codes "f0") D0 ∷ placed (codes "f1") D1 ∷ placed (codes "f2") D2 ∷ [];
  pads =
      placed (codes "o0") D0 ∷ placed (codes "o1") D1 ∷ placed (codes "o2") D2 ∷ placed (codes "x0") D0 ∷ placed (codes "x1") D1 ∷ placed (codes "x2") D2
      ∷ placed (codes "y0") D0 ∷ placed (codes "y1") D1 ∷ placed (codes "y2") D2 ∷ [];
  triples = triple (codes "f0") (codes "f1") (codes "f2") ∷ [];
  inputs = triple (codes "x0") (codes "x1") (codes "x2") ∷ triple (codes "y0") (codes "y1") (codes "y2") ∷ [];
  outputs = triple (codes "o0") (codes "o1") (codes "o2") ∷ [];
  clocks = [];
  voters = [];
}

abbrev pub exchange_with : ℕ → Circuit
exchange_with word = record {
  routing = record { links = copy_links 0 ++ copy_links 1 ++ copy_links 2; outputs = out 0 ∷ out 1 ∷ out 2 ∷ x 0 ∷ x 1 ∷ x 2 ∷ y 0 ∷ y 1 ∷ y 2 ∷ [] };
  cells = exchange_cells word;
  side = exchange_side;
}

abbrev pub exchange : Circuit
exchange = exchange_with 0x2222
