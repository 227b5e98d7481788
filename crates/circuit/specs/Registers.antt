-- When two registers are copies. (Our own.)
use Rattle.std.specs.Prelude.{◌≡◌, ℕ}
use Rattle.circuit.specs.Cells.{Input, InputWire, InputNotWire, InputZero, InputOne, RegisterCell}
use Rattle.circuit.specs.Parts.{PartRef, Source}
use Rattle.circuit.specs.Pins.{Pin, pin_at}
use Rattle.circuit.specs.Triples.{triple_of}
use Rattle.circuit.specs.Circuits.{Circuit, Connects}

-- two pins are fed by the same triple
pub record FedAlike (c : Circuit) (p q : Pin) : Type 0 where
  pub first : Source
  pub second : Source
  pub feeds_first : Connects c first p
  pub feeds_second : Connects c second q
  pub same : triple_of c.side first.part ≡ triple_of c.side second.part

-- two registers take the same form at the pin of this number: the same constant, or both a wire or both the
-- opposite of one, fed by the same triple
abbrev pub TakesAlike : Circuit → PartRef → PartRef → ℕ → Input → Input → Type 0
TakesAlike c s u n (InputWire a) (InputWire b) = FedAlike c (pin_at s n a) (pin_at u n b)
TakesAlike c s u n (InputNotWire a) (InputNotWire b) = FedAlike c (pin_at s n a) (pin_at u n b)
TakesAlike c s u n InputZero InputZero = Unit {0}
TakesAlike c s u n InputOne InputOne = Unit {0}
TakesAlike c s u n _ _ = ⊥

-- two registers have equal set values, and the same form at data, enable, reset and clock
pub record RegistersAlike (c : Circuit) (s u : PartRef) (q r : RegisterCell) : Type 0 where
  pub set : q.set ≡ r.set
  pub input : TakesAlike c s u 0 q.input r.input
  pub enable : TakesAlike c s u 1 q.enable r.enable
  pub reset : TakesAlike c s u 2 q.reset r.reset
  pub clock : TakesAlike c s u 3 q.clock r.clock
