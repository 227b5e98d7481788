-- The toggle's circuit on MINI-A with other numbers of wires: those of the toggle that stands as an example of a
-- circuit.
use Rattle.std.specs.Prelude.{ℕ, ◌+◌, ◌*◌, pos, List, [], ◌∷◌, map, position, Option, None, option_map, option_and_then, slice_get, unwrap_or, codes, bytes_eq}
use Rattle.links.specs.Links.{Link}
use Rattle.fabric.specs.Wires.{Wire, Local, Wide}
use Rattle.fabric.specs.Graph.{Graph}
use Rattle.circuit.specs.Cells.{TableCell, Input, InputWire, InputNotWire, InputZero, InputOne, RegisterCell, Cells}
use Rattle.circuit.specs.Circuits.{Circuit}
use Rattle.circuit_examples.specs.Toggle.{toggle}

abbrev pub example : Circuit
example = toggle

-- the wires of a column in the order of their numbers, and the clock wires of the columns
abbrev pub bases : List (List ℕ)
bases =
    codes "A" ∷ codes "B" ∷ codes "C" ∷ codes "D" ∷ codes "CK" ∷ codes "F" ∷ codes "Q" ∷ codes "H0" ∷ codes "H1" ∷ codes "H2" ∷ codes "PI" ∷ codes "PO" ∷ codes "KI" ∷ []

abbrev pub clocks : List (List ℕ)
clocks = codes "G_CK0" ∷ codes "G_CK1" ∷ codes "G_CK2" ∷ []

-- the number of a wire in the example, where it has it
abbrev pub example_number : Wire → Option ℕ
example_number (Local (pos row) (pos column) base) = option_map (λ n. 100 * column + n) (position (bytes_eq base) bases)
example_number (Local row column base) = None
example_number (Wide base) = option_map (λ n. 100 * (n + 1) + 13) (position (bytes_eq base) clocks)

abbrev pub renumbered : Graph → ℕ → ℕ
renumbered g n = unwrap_or (option_and_then example_number (slice_get g.wires n)) 0

abbrev pub link_with : (ℕ → ℕ) → Link → Link
link_with f l = record { source = f l.source; sink = f l.sink }

abbrev pub input_with : (ℕ → ℕ) → Input → Input
input_with f (InputWire w) = InputWire (f w)
input_with f (InputNotWire w) = InputNotWire (f w)
input_with f InputZero = InputZero
input_with f InputOne = InputOne

abbrev pub table_with : (ℕ → ℕ) → TableCell → TableCell
table_with f t = record { word = t.word; pins = map f t.pins; out = f t.out }

abbrev pub register_with : (ℕ → ℕ) → RegisterCell → RegisterCell
register_with f r = record { input = input_with f r.input; enable = input_with f r.enable; reset = input_with f r.reset; set = r.set; clock = input_with f r.clock; out = f r.out }

-- cells with other numbers of wires, and without their device bits
abbrev pub cells_with : (ℕ → ℕ) → Cells → Cells
cells_with f cells = record {
  slices = map (λ s. record { name = s.name; domain = s.domain; tables = map (table_with f) s.tables; registers = map (register_with f) s.registers; bits = [] }) cells.slices;
  pads = map (λ p. record { name = p.name; domain = p.domain; role = p.role; wire = f p.wire; bits = [] }) cells.pads;
}
