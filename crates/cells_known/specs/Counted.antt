-- Counts up to the largest number, and the pins of a register. (Our own.)
use Rattle.std.specs.Prelude.{ℕ, ◌+◌, ◌-◌, ◌^◌, min}
use Rattle.circuit.specs.Cells.{Input, InputWire, InputNotWire, InputZero, InputOne, RegisterCell}

-- a number, or the largest of 64 bits where it is above that
abbrev pub capped : ℕ → ℕ
capped n = min n (2 ^ 64 - 1)

-- one where a register takes a wire
abbrev pub input_pins : Input → ℕ
input_pins (InputWire w) = 1
input_pins (InputNotWire w) = 1
input_pins InputZero = 0
input_pins InputOne = 0

-- the pins data, enable, reset and clock, each where it takes a wire
abbrev pub register_pins : RegisterCell → ℕ
register_pins r = input_pins r.input + input_pins r.enable + input_pins r.reset + input_pins r.clock
