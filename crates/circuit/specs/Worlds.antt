-- What stands on wires, parts, pins and pads in one cycle. (Our own.)
use Rattle.std.specs.Prelude.{◌≡◌, ℕ, ◌+◌, ◌*◌, Bool, List, [], ◌∷◌, map, ◌==◌, if◌then◌else◌}
use Rattle.std.specs.Int.{bit_at}
use Rattle.records.specs.Side.{Triple, Side}
use Rattle.circuit.specs.Cells.{TableCell}
use Rattle.circuit.specs.Parts.{PartRef, Kind, OfTable, OfRegister, OfInput, OfClock, Source}
use Rattle.circuit.specs.Pins.{PinRef, Pin, table_pins}
use Rattle.circuit.specs.Triples.{triple_with}

-- a wire carries 0, 1 or `clock`
pub data Value : Type 0 where
  Bit : Bool → Value
  Clock : Value

-- One cycle: what each wire carries, the bit that each table gives or register holds, the bit that each pin
-- counts as, and what each output pad shows, by its name.
pub record World : Type 0 where
  pub wire : ℕ → Value
  pub part : PartRef → Bool
  pub pin : PinRef → Bool
  pub shown : List ℕ → Value

-- the address of the bits of pins: p0 + 2·p1 + 4·p2 + 8·p3
abbrev pub address : List Bool → ℕ
address [] = 0
address (b ∷ bs) = (if b then 1 else 0) + 2 * address bs

-- the bit of a word at the address of these bits
abbrev pub word_bit : ℕ → List Bool → Bool
word_bit word bits = bit_at word (address bits) == 1

-- what a table gives, by the bits of its pins
abbrev pub table_output : PartRef → TableCell → (Pin → Bool) → Bool
table_output part t bits = word_bit t.word (map bits (table_pins part t))

-- the bit that a pin counts as in a world
abbrev pub bit_of : World → Pin → Bool
bit_of w p = w.pin p.ref

-- a pin that carries `clock` counts as either bit, another one as what it carries
abbrev pub CountsAs : Value → Bool → Type 0
CountsAs (Bit b) bit = bit ≡ b
CountsAs Clock bit = Unit {0}

-- What the output of a part carries: the part's bit, the bit of its input triple, or `clock`.
abbrev pub carried_by : Side → (Triple → Bool) → World → PartRef → Kind → Value
carried_by side input w part (OfTable t) = Bit (w.part part)
carried_by side input w part (OfRegister r) = Bit (w.part part)
carried_by side input w part OfInput = Bit (input (triple_with side part.cell))
carried_by side input w part OfClock = Clock

abbrev pub carried : Side → (Triple → Bool) → World → Source → Value
carried side input w s = carried_by side input w s.part s.kind
