-- The slots of a tile type: its names, each read once. (Our own.)
use Rattle.std.specs.Prelude.{◌≡◌, ℕ, List, Option}
use Rattle.records.specs.Database.{TileDb}
use Rattle.records.specs.Profile.{Rules}
use Rattle.fabric.specs.WireOfName.{wire_of_name}
use Rattle.wire_names.specs.Kept.{IsShortOrIgnored}
use Rattle.wire_names.specs.Slots.{slot_at}
use Rattle.wire_names.specs.declared.slot.Slot.{Slot}

-- at each place the slot stands for what the name stands for, which can be kept unless it is ignored
pub record IsSlotOf (rules : Rules) (name : List ℕ) (slot : Slot) : Type 0 where
  pub stands : (row column : ℕ) → slot_at (row, column) slot ≡ wire_of_name (row, column) name rules
  pub short : (row column : ℕ) → IsShortOrIgnored (slot_at (row, column) slot)

-- what the tiles of a type share: the rules of names, the type's database, and the names of its slots
pub record TypeSlots : Type 0 where
  pub rules : Rules
  pub db : Option TileDb
  pub names : List (List ℕ)
