-- What the checks of a circuit go by, in lists by number. (Our own.)
use Rattle.std.specs.Prelude.{◌≡◌, ℕ, Bool, List, length, Option}
use Rattle.records.specs.Side.{Side}
use Rattle.links.specs.Links.{IsClean}
use Rattle.circuit.specs.Cells.{Cells}
use Rattle.circuit.specs.Parts.{sources}
use Rattle.circuit.specs.Pins.{pins}
use Rattle.circuit.specs.Circuits.{Circuit}
use Rattle.circuit.specs.WellFormed.{IsWellFormed}
use Rattle.wire_feeds.specs.Rows.{AreFeeds}
use Rattle.pin_feeds.specs.Told.{Tells}
use Rattle.part_triples.specs.Numbers.{numbers_of}
use Rattle.part_copies.specs.Numbered.{AreNumberedOnce}
use Rattle.net_order.specs.Orders.{AreInNameOrder}
use Rattle.pin_rules.specs.declared.owners.PinOwner.{PinOwner}
use Rattle.pin_rules.specs.Owners.{owners_of}
use Rattle.pin_rules.specs.ReadParts.{AreReadParts}
use Rattle.pin_rules.specs.Voters.{AreVoters}
use Rattle.circuit_checks.specs.declared.listed.Listed.{Listed}

-- the lists belong to cells and a side file, and to what feeds the pins of the cells
pub record AreKept (cells : Cells) (side : Side) (feeds numbers : List (Option ℕ)) (read : List Bool) (owners : List PinOwner) (voters : List Bool) : Type 0 where
  pub long : length feeds ≡ length (pins cells)
  pub triples : numbers ≡ numbers_of side (sources cells)
  pub are_read : AreReadParts cells feeds read
  pub are_owners : owners ≡ owners_of cells
  pub are_voters : (c : Circuit) → c.cells ≡ cells → c.side ≡ side → AreVoters c voters

-- the cells, the side file and what feeds pins are those of a circuit; its slices stand in order, and no part has two numbers
pub record AreOf (c : Circuit) (cells : Cells) (side : Side) (feeds : List (Option ℕ)) : Type 0 where
  pub its_cells : c.cells ≡ cells
  pub its_side : c.side ≡ side
  pub tells : Tells c feeds
  pub ordered : AreInNameOrder cells
  pub once : AreNumberedOnce cells

-- what a program has listed is so
abbrev pub IsKept : Listed → Type 0
IsKept l = AreKept l.parts.now l.side.now l.feeds.now l.triples l.read.items l.owners.items l.voters.items

abbrev pub IsOf : Circuit → Listed → Type 0
IsOf c l = AreOf c l.parts.now l.side.now l.feeds.now

-- A circuit has these cells and this side file, a clean routing whose wires have these feeds, and well-formed cells, whose slices
-- stand in order and whose parts have one number each.
pub record IsFormed (c : Circuit) (cells : Cells) (side : Side) (feeds : List (Option ℕ)) : Type 0 where
  pub its_cells : c.cells ≡ cells
  pub its_side : c.side ≡ side
  pub clean : IsClean c.routing
  pub fed : AreFeeds c.routing feeds
  pub formed : IsWellFormed c
  pub ordered : AreInNameOrder cells
  pub once : AreNumberedOnce cells
