-- When two circuits are of one design: the same parts under the same names, connected alike. (Our own.)
use Rattle.std.specs.Prelude.{◌≡◌, List, [], map, ◌↔◌}
use Rattle.records.specs.Side.{Placed, Side}
use Rattle.circuit.specs.Cells.{TableCell, Input, InputWire, InputNotWire, InputZero, InputOne, RegisterCell, SliceCell, PadCell, Cells}
use Rattle.circuit.specs.Circuits.{Circuit, Connection, IsConnection}
use Rattle.circuit.specs.Triples.{Member}

-- What is left of cells without their wires and device bits: names, domains, words, numbers of pins, set
-- values, forms of inputs and roles. Wire 0 stands in the place of each wire.
abbrev pub input_shape : Input → Input
input_shape (InputWire w) = InputWire 0
input_shape (InputNotWire w) = InputNotWire 0
input_shape InputZero = InputZero
input_shape InputOne = InputOne

abbrev pub table_shape : TableCell → TableCell
table_shape t = record { word = t.word; pins = map (λ w. 0) t.pins; out = 0 }

abbrev pub register_shape : RegisterCell → RegisterCell
register_shape r = record { input = input_shape r.input; enable = input_shape r.enable; reset = input_shape r.reset; set = r.set; clock = input_shape r.clock; out = 0 }

abbrev pub slice_shape : SliceCell → SliceCell
slice_shape s = record { name = s.name; domain = s.domain; tables = map table_shape s.tables; registers = map register_shape s.registers; bits = [] }

abbrev pub pad_shape : PadCell → PadCell
pad_shape p = record { name = p.name; domain = p.domain; role = p.role; wire = 0; bits = [] }

abbrev pub shape_of : Cells → Cells
shape_of cells = record { slices = map slice_shape cells.slices; pads = map pad_shape cells.pads }

-- the names and domains of placed cells, without their tiles and kinds
abbrev pub placed_members : List Placed → List Member
placed_members ps = map (λ p. record { name = p.name; domain = p.domain }) ps

-- two side files are the same but for tiles and kinds of slices: pads never move
pub record SameSide (a b : Side) : Type 0 where
  pub slices : placed_members a.slices ≡ placed_members b.slices
  pub pads : a.pads ≡ b.pads
  pub triples : a.triples ≡ b.triples
  pub inputs : a.inputs ≡ b.inputs
  pub outputs : a.outputs ≡ b.outputs
  pub clocks : a.clocks ≡ b.clocks
  pub voters : a.voters ≡ b.voters

-- two circuits have the same side file but for sites of slices, the same cells but for wires, and the same connections
pub record SameDesign (c e : Circuit) : Type 0 where
  pub sides : SameSide c.side e.side
  pub parts : shape_of c.cells ≡ shape_of e.cells
  pub connections : (x : Connection) → IsConnection c x ↔ IsConnection e x
