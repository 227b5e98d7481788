-- The cells of a circuit: slices with their tables and registers, and pads. A wire is a number, the place of
-- its name among the wires of a graph. (Our own.)
use Rattle.std.specs.Prelude.{ℕ, Bool, List}
use Rattle.patterns.specs.Bits.{DeviceBit}
use Rattle.records.specs.Side.{Domain}

-- A table: its word, whose bit k is what the table gives at address k, the wires of its pins from number 0
-- on, and the wire of its output.
pub record TableCell : Type 0 where
  pub word : ℕ
  pub pins : List ℕ
  pub out : ℕ

-- what a register takes: what a wire carries, its opposite, or a constant
pub data Input : Type 0 where
  InputWire : ℕ → Input
  InputNotWire : ℕ → Input
  InputZero : Input
  InputOne : Input

-- a register; `input` is its data, and `set` is the bit that it takes where it is reset
pub record RegisterCell : Type 0 where
  pub input : Input
  pub enable : Input
  pub reset : Input
  pub set : Bool
  pub clock : Input
  pub out : ℕ

-- a slice with its domain; `bits` are the device bits of its settings
pub record SliceCell : Type 0 where
  pub name : List ℕ
  pub domain : Domain
  pub tables : List TableCell
  pub registers : List RegisterCell
  pub bits : List DeviceBit

pub data Role : Type 0 where
  InputPad : Role
  OutputPad : Role
  ClockPad : Role

-- A pad with its domain. Its wire is the one into the fabric at an input or a clock, and the one out of the
-- fabric at an output.
pub record PadCell : Type 0 where
  pub name : List ℕ
  pub domain : Domain
  pub role : Role
  pub wire : ℕ
  pub bits : List DeviceBit

-- the named cells
pub record Cells : Type 0 where
  pub slices : List SliceCell
  pub pads : List PadCell
