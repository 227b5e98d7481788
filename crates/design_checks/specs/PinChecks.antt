-- Pins and what feeds them: modelled outputs, loops of tables, open pins, clocks and foreign domains. Parts and pins
-- are named by the least that is faulty. (Our own.)
use Rattle.std.specs.Prelude.{◌≡◌, ◌≢◌, ℕ, List, Some, slice_get}
use Rattle.words.specs.Members.{In}
use Rattle.records.specs.Side.{Domain}
use Rattle.links.specs.Links.{Reaches, Feeds, Fed}
use Rattle.fabric.specs.Wires.{Wire}
use Rattle.fabric.specs.Graph.{Graph}
use Rattle.circuit.specs.Cells.{PadCell, RegisterCell}
use Rattle.circuit.specs.Parts.{PartRef, Source, OfRegister, sources, output_pads}
use Rattle.circuit.specs.Pins.{PinRef, Pin, pins, pad_pin, bit_pins, clock_pins, source_pins}
use Rattle.circuit.specs.Circuits.{Circuit, IsReadBy}
use Rattle.circuit.specs.Domains.{HasDomain}
use Rattle.circuit.specs.Tables.{Ignores}
use Rattle.circuit.specs.Triplicated.{ReadPart, FedByClock, IsVoter}
use Rattle.answers.specs.Refusals.{Refusal, UnnamedSource, Loop, OpenPin, ClockAsData, NotClocked, ForeignRead}
use Rattle.attempts.specs.PinOrder.{part_cmp, pin_cmp}
use Rattle.design_checks.specs.Checks.{IsLeast}

-- ---- sources

-- a pin is fed by a cell output that is no modelled one
pub record IsFedUnnamed (c : Circuit) (ref : PinRef) (o : ℕ) : Type 0 where
  pub pin : Pin
  pub listed : In (pins c.cells) pin
  pub is : pin.ref ≡ ref
  pub feeds : Feeds c.routing o pin.wire
  pub unnamed : (s : Source) → In (sources c.cells) s → s.out ≢ o

-- 28: the least pin whose feed isn't a modelled output, with the feed
pub data SourceUnnamed (g : Graph) (c : Circuit) : Refusal → Type 0 where
  unnamed : (ref : PinRef) (o : ℕ) (wire : Wire) → IsLeast pin_cmp (λ pin. (x : ℕ) × IsFedUnnamed c pin x) ref → IsFedUnnamed c ref o → slice_get g.wires o ≡ Some wire
      → SourceUnnamed g c (UnnamedSource ref wire)

-- ---- loops

-- a part reaches itself along connections through tables, so it is a table
pub record IsOnLoop (c : Circuit) (part : PartRef) : Type 0 where
  pub source : Source
  pub is : source.part ≡ part
  pub next : Source
  pub reads : IsReadBy c source next
  pub back : Reaches (IsReadBy c) next source

-- 29: the least table that reaches itself
pub data TablesLoop (c : Circuit) : Refusal → Type 0 where
  loop : (part : PartRef) → IsLeast part_cmp (IsOnLoop c) part → TablesLoop c (Loop part)

-- ---- pins by property

-- a pin has a property that is told of pins of read parts, with the part, and of pins of output pads
pub data OfReadPart (c : Circuit) (pins_of : Source → List Pin) (Has : Source → Pin → Type 0) (OfPad : PadCell → Type 0) : PinRef → Type 0 where
  of_part : (s : Source) (p : Pin) → ReadPart c s → In (pins_of s) p → Has s p → OfReadPart c pins_of Has OfPad p.ref
  of_pad : (p : PadCell) → In (output_pads c.cells) p → OfPad p → OfReadPart c pins_of Has OfPad (pad_pin p).ref

-- a pin that is no clock pin has no feed, and its part doesn't ignore it
abbrev pub IsOpen : Circuit → PinRef → Type 0
IsOpen c = OfReadPart c bit_pins (λ s p. (Fed c.routing p.wire → ⊥) × (Ignores s.kind p.ref.pin → ⊥)) (λ p. Fed c.routing p.wire → ⊥)

-- 30: the least open pin
pub data PinsOpen (c : Circuit) : Refusal → Type 0 where
  open_pin : (ref : PinRef) → IsLeast pin_cmp (IsOpen c) ref → PinsOpen c (OpenPin ref)

-- a pin that is no clock pin is fed by a clock pad
abbrev pub TakesClock : Circuit → PinRef → Type 0
TakesClock c = OfReadPart c bit_pins (λ s p. FedByClock c p) (λ p. FedByClock c (pad_pin p))

-- 31: the least pin that takes a clock as data
pub data ClocksAsData (c : Circuit) : Refusal → Type 0 where
  clock : (ref : PinRef) → IsLeast pin_cmp (TakesClock c) ref → ClocksAsData c (ClockAsData ref)

-- no clock pad feeds the clock pin of a read register
pub record IsUnclocked (c : Circuit) (part : PartRef) : Type 0 where
  pub source : Source
  pub register : RegisterCell
  pub is : source.part ≡ part
  pub read : ReadPart c source
  pub is_register : source.kind ≡ OfRegister register
  pub unclocked : (p : Pin) → In (clock_pins source) p → FedByClock c p → ⊥

-- 32: the least register that isn't clocked
pub data RegistersUnclocked (c : Circuit) : Refusal → Type 0 where
  unclocked : (part : PartRef) → IsLeast part_cmp (IsUnclocked c) part → RegistersUnclocked c (NotClocked part)

-- a pin with a feed isn't fed from its own domain, and isn't a voter's that is fed from any
abbrev pub ReadsForeign : Circuit → PinRef → Type 0
ReadsForeign c = OfReadPart c source_pins
    (λ s p. Fed c.routing p.wire × ((HasDomain c p.wire s.domain → ⊥) × (IsVoter c s.part × ((d : Domain) × HasDomain c p.wire d) → ⊥)))
    (λ p. Fed c.routing p.wire × (HasDomain c p.wire p.domain → ⊥))

-- 33: the least pin that is fed from another domain
pub data PinsForeign (c : Circuit) : Refusal → Type 0 where
  foreign : (ref : PinRef) → IsLeast pin_cmp (ReadsForeign c) ref → PinsForeign c (ForeignRead ref)
