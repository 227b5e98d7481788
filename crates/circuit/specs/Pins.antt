-- The pins of parts. The pins of a table are numbered from 0. A register has the pins data, enable, reset and
-- clock, 0 to 3 in this order, each where it takes a wire. An output pad has the pin 0. (Our own.)
use Rattle.std.specs.Prelude.{ℕ, List, [], ◌∷◌, ◌++◌, map}
use Rattle.std.specs.List.{flat_map}
use Rattle.circuit.specs.Cells.{TableCell, Input, InputWire, InputNotWire, InputZero, InputOne, RegisterCell, PadCell, Cells}
use Rattle.circuit.specs.Parts.{PartRef, Kind, OfTable, OfRegister, OfInput, OfClock, Source, numbered, pad_part, sources, output_pads}

-- a pin, by its part and its number there
pub record PinRef : Type 0 where
  pub part : PartRef
  pub pin : ℕ

-- a pin with the wire that it takes
pub record Pin : Type 0 where
  pub ref : PinRef
  pub wire : ℕ

-- the pin of a part with this number, at a wire
abbrev pub pin_at : PartRef → ℕ → ℕ → Pin
pin_at part n w = record { ref = record { part = part; pin = n }; wire = w }

-- the pin of a register with this number, where it takes a wire
abbrev pub input_pin : PartRef → ℕ → Input → List Pin
input_pin part n (InputWire w) = pin_at part n w ∷ []
input_pin part n (InputNotWire w) = pin_at part n w ∷ []
input_pin part n InputZero = []
input_pin part n InputOne = []

-- the pins of a table
abbrev pub table_pins : PartRef → TableCell → List Pin
table_pins part t = numbered (pin_at part) 0 t.pins

-- the pins data, enable and reset of a register
abbrev pub data_pins : PartRef → RegisterCell → List Pin
data_pins part r = input_pin part 0 r.input ++ input_pin part 1 r.enable ++ input_pin part 2 r.reset

-- the pins of a part that count as bits: all but clock pins
abbrev pub bit_pins_of : PartRef → Kind → List Pin
bit_pins_of part (OfTable t) = table_pins part t
bit_pins_of part (OfRegister r) = data_pins part r
bit_pins_of part OfInput = []
bit_pins_of part OfClock = []

abbrev pub clock_pins_of : PartRef → Kind → List Pin
clock_pins_of part (OfTable t) = []
clock_pins_of part (OfRegister r) = input_pin part 3 r.clock
clock_pins_of part OfInput = []
clock_pins_of part OfClock = []

abbrev pub bit_pins : Source → List Pin
bit_pins s = bit_pins_of s.part s.kind

abbrev pub clock_pins : Source → List Pin
clock_pins s = clock_pins_of s.part s.kind

-- all pins of a part with an output
abbrev pub source_pins : Source → List Pin
source_pins s = bit_pins s ++ clock_pins s

abbrev pub pad_pin : PadCell → Pin
pad_pin p = pin_at (pad_part p) 0 p.wire

-- the pins of the named cells
abbrev pub pins : Cells → List Pin
pins cells = flat_map source_pins (sources cells) ++ map pad_pin (output_pads cells)
