-- Choices: a value for all that a run leaves free. A choice gives in each cycle a value to each wire, a bit to
-- each part and each pin, and a value to each output pad. (Our own.)
use Rattle.std.specs.Prelude.{◌≡◌, ◌≢◌, ℕ, suc, ◌<◌}
use Rattle.words.specs.Members.{In}
use Rattle.links.specs.Links.{Counting}
use Rattle.circuit.specs.Cells.{RegisterCell, PadCell}
use Rattle.circuit.specs.Parts.{Kind, OfTable, OfRegister, OfInput, OfClock, Source, sources, output_pads}
use Rattle.circuit.specs.Pins.{Pin, bit_pins}
use Rattle.circuit.specs.Circuits.{Circuit, IsRead}
use Rattle.circuit.specs.Worlds.{Clock, World}
use Rattle.circuit.specs.Faults.{Fault}
use Rattle.circuit.specs.Runs.{IsClocked}

-- in one cycle, the world takes the choice where nothing else says what stands there
pub record TakesFree (c : Circuit) (f : Fault) (choice w : World) : Type 0 where
  pub disturbed : (a : ℕ) → In f.disturbed a → w.wire a ≡ choice.wire a
  pub touched : (s : Source) → In (sources c.cells) s → In f.touched s.part.cell → w.wire s.out ≡ choice.wire s.out
  -- a wire with no counting driver that is no modelled output
  pub loose : (a : ℕ) → ((b : ℕ) → Counting c.routing b a → ⊥) → ((s : Source) → In (sources c.cells) s → s.out ≢ a) → w.wire a ≡ choice.wire a
  -- a pin that carries `clock`
  pub pins : (s : Source) (p : Pin) → In (sources c.cells) s → In (bit_pins s) p → w.wire p.wire ≡ Clock → w.pin p.ref ≡ choice.pin p.ref
  pub shows : (p : PadCell) → In (output_pads c.cells) p → In f.touched p.name → w.shown p.name ≡ choice.shown p.name

-- a run follows a choice: each value that is left free is the choice's
pub record Follows (c : Circuit) (f : Fault) (choice : ℕ → World) (n : ℕ) (run : ℕ → World) : Type 0 where
  pub cycles : (t : ℕ) → t < n → TakesFree c f (choice t) (run t)
  -- the bits of unread registers at the start
  pub unread : 0 < n → (s : Source) (r : RegisterCell) → In (sources c.cells) s → s.kind ≡ OfRegister r → (IsRead c s → ⊥)
      → (run 0).part s.part ≡ (choice 0).part s.part
  -- the next bits of registers that are touched or not clocked
  pub touched : (t : ℕ) → suc t < n → (s : Source) (r : RegisterCell) → In (sources c.cells) s → s.kind ≡ OfRegister r → In f.touched s.part.cell
      → (run (suc t)).part s.part ≡ (choice (suc t)).part s.part
  pub unclocked : (t : ℕ) → suc t < n → (s : Source) (r : RegisterCell) → In (sources c.cells) s → s.kind ≡ OfRegister r
      → (IsClocked (run t) r.clock → ⊥)
      → (run (suc t)).part s.part ≡ (choice (suc t)).part s.part

-- the part of a source has a bit: a table or a register
abbrev pub HasBit : Kind → Type 0
HasBit (OfTable t) = Unit {0}
HasBit (OfRegister r) = Unit {0}
HasBit OfInput = ⊥
HasBit OfClock = ⊥

-- two worlds agree on all that the circuit has: wires, the bits of parts and pins, and what output pads show
pub record Agree (c : Circuit) (v w : World) : Type 0 where
  pub wires : (a : ℕ) → v.wire a ≡ w.wire a
  pub parts : (s : Source) → In (sources c.cells) s → HasBit s.kind → v.part s.part ≡ w.part s.part
  pub pins : (s : Source) (p : Pin) → In (sources c.cells) s → In (bit_pins s) p → v.pin p.ref ≡ w.pin p.ref
  pub shown : (p : PadCell) → In (output_pads c.cells) p → v.shown p.name ≡ w.shown p.name
