-- A circuit: named cells, the routing between them, and the side file that lists their copies. (Our own.)
use Rattle.std.specs.Prelude.{◌≡◌}
use Rattle.words.specs.Members.{In}
use Rattle.links.specs.Links.{Routing, Feeds}
use Rattle.records.specs.Side.{Side}
use Rattle.circuit.specs.Cells.{TableCell, Cells}
use Rattle.circuit.specs.Parts.{PartRef, OfTable, Source, sources}
use Rattle.circuit.specs.Pins.{PinRef, Pin, table_pins, pins}

pub record Circuit : Type 0 where
  pub routing : Routing
  pub cells : Cells
  pub side : Side

-- the output of a part feeds a pin
pub record Connects (c : Circuit) (s : Source) (p : Pin) : Type 0 where
  pub source : In (sources c.cells) s
  pub pin : In (pins c.cells) p
  pub feeds : Feeds c.routing s.out p.wire

-- a part is read when it has a connection
abbrev pub IsRead : Circuit → Source → Type 0
IsRead c s = (p : Pin) × Connects c s p

-- a part and a pin, by their names
pub record Connection : Type 0 where
  pub source : PartRef
  pub pin : PinRef

-- a connection of the circuit: the part's output feeds the pin
pub record IsConnection (c : Circuit) (x : Connection) : Type 0 where
  pub source : Source
  pub pin : Pin
  pub connects : Connects c source pin
  pub from : source.part ≡ x.source
  pub to : pin.ref ≡ x.pin

-- part u is read by table s: its output feeds one of the pins of the table
pub record IsReadBy (c : Circuit) (u s : Source) : Type 0 where
  pub table : TableCell
  pub is_table : s.kind ≡ OfTable table
  pub listed : In (sources c.cells) s
  pub pin : Pin
  pub takes : In (table_pins s.part table) pin
  pub connects : Connects c u pin
