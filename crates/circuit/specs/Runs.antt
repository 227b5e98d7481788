-- Cycles and runs, also under a fault. A fault leaves all drivers as they were: a disturbed wire, an output of a
-- touched cell, what a touched output pad shows and the next bit of a touched register may be anything, in
-- each cycle anew. (Our own.)
use Rattle.std.specs.Prelude.{◌≡◌, ℕ, suc, ◌<◌, Bool, true, false, not, if◌then◌else◌}
use Rattle.words.specs.Members.{In}
use Rattle.links.specs.Links.{Counting}
use Rattle.records.specs.Side.{Triple}
use Rattle.circuit.specs.Cells.{TableCell, Input, InputWire, InputNotWire, InputZero, InputOne, RegisterCell, PadCell}
use Rattle.circuit.specs.Parts.{PartRef, OfTable, OfRegister, Source, sources, output_pads}
use Rattle.circuit.specs.Pins.{Pin, bit_pins}
use Rattle.circuit.specs.Triples.{PartTriple, triple_of}
use Rattle.circuit.specs.Circuits.{Circuit, IsRead}
use Rattle.circuit.specs.Worlds.{Clock, World, table_output, bit_of, CountsAs, carried}
use Rattle.circuit.specs.Faults.{Fault}

-- The values of one cycle: a relation between wires and parts, with no order of evaluation. What it doesn't
-- name may be anything, as a wire with no counting driver that is no modelled output: the output of an
-- unnamed cell, or the `in` wire of a named output pad.
pub record IsCycle (c : Circuit) (f : Fault) (input : Triple → Bool) (w : World) : Type 0 where
  -- a wire carries what its counting driver carries
  pub driven : (a b : ℕ) → (In f.disturbed a → ⊥) → Counting c.routing b a → w.wire a ≡ w.wire b
  -- the output of a part carries the part's bit, the bit of its input triple, or `clock`
  pub outputs : (s : Source) → In (sources c.cells) s → (In f.disturbed s.out → ⊥) → (In f.touched s.part.cell → ⊥)
      → w.wire s.out ≡ carried c.side input w s
  -- a table gives the bit of its word at the address of its pins
  pub tables : (s : Source) (t : TableCell) → In (sources c.cells) s → s.kind ≡ OfTable t → w.part s.part ≡ table_output s.part t (bit_of w)
  -- a pin counts as what its wire carries, where that is `clock` as either bit
  pub pins : (s : Source) (p : Pin) → In (sources c.cells) s → In (bit_pins s) p → CountsAs (w.wire p.wire) (w.pin p.ref)
  -- an output pad shows what its wire carries
  pub shows : (p : PadCell) → In (output_pads c.cells) p → (In f.touched p.name → ⊥) → w.shown p.name ≡ w.wire p.wire

-- what a register takes at a pin
abbrev pub taken : World → PartRef → ℕ → Input → Bool
taken w part n (InputWire a) = w.pin (record { part = part; pin = n })
taken w part n (InputNotWire a) = not (w.pin (record { part = part; pin = n }))
taken w part n InputZero = false
taken w part n InputOne = true

-- A register's next bit: its set value where reset is 1, else its data where enable is 1, else its old bit.
abbrev pub next_bit : World → PartRef → RegisterCell → Bool
next_bit w part r = if taken w part 2 r.reset then r.set else (if taken w part 1 r.enable then taken w part 0 r.input else w.part part)

-- the clock pin carries `clock`
abbrev pub IsClocked : World → Input → Type 0
IsClocked w (InputWire a) = w.wire a ≡ Clock
IsClocked w (InputNotWire a) = w.wire a ≡ Clock
IsClocked w InputZero = ⊥
IsClocked w InputOne = ⊥

-- between two cycles: a register that isn't clocked takes any bit
abbrev pub IsStep : Circuit → Fault → World → World → Type 0
IsStep c f now next = (s : Source) (r : RegisterCell) → In (sources c.cells) s → s.kind ≡ OfRegister r → (In f.touched s.part.cell → ⊥) → IsClocked now r.clock
    → next.part s.part ≡ next_bit now s.part r

-- A common start gives one bit to each register triple. Each read register holds its triple's bit, and an
-- unread one holds anything.
abbrev pub IsStart : Circuit → (PartTriple → Bool) → World → Type 0
IsStart c start w = (s : Source) (r : RegisterCell) → In (sources c.cells) s → s.kind ≡ OfRegister r → IsRead c s → w.part s.part ≡ start (triple_of c.side s.part)

-- A run of n cycles under a fault, from a start, on an input that gives one bit to each input triple in each
-- cycle.
pub record IsRun (c : Circuit) (f : Fault) (start : PartTriple → Bool) (input : ℕ → Triple → Bool) (n : ℕ) (run : ℕ → World) : Type 0 where
  -- the first cycle is a common start
  pub starts : 0 < n → IsStart c start (run 0)
  pub cycles : (t : ℕ) → t < n → IsCycle c f (input t) (run t)
  pub steps : (t : ℕ) → suc t < n → IsStep c f (run t) (run (suc t))

-- What a run begins with, what it is given, and how long it is: a common start, a bit for each input triple in each
-- cycle, and a number of cycles.
pub record Course : Type 0 where
  pub start : PartTriple → Bool
  pub input : ℕ → Triple → Bool
  pub cycles : ℕ

-- a run of a course under a fault
abbrev pub IsRunOf : Circuit → Fault → Course → (ℕ → World) → Type 0
IsRunOf c f course run = IsRun c f course.start course.input course.cycles run
