-- What a slot of a tile type stands for in a tile at a place. (Our own.)
use Rattle.std.specs.Prelude.{ℕ, pos, ◌+ℤ◌, Bool, if◌then◌else◌}
use Rattle.fabric.specs.Wires as wires
use Rattle.fabric.specs.WireNames as names
use Rattle.wire_names.specs.declared.relative.Relative.{Relative}
use Rattle.wire_names.specs.declared.slot.Slot.{Slot}
use Rattle.wire_names.specs.declared.slot.Slot.TheVariants.{Local, Wide, Ignored}

abbrev pub slot_at : ℕ × ℕ → Slot → names.WireName
slot_at place (Local r) = names.Named (wires.Local (pos place.0 +ℤ r.rows) (pos place.1 +ℤ r.columns) r.base.now)
slot_at place (Wide base) = names.Named (wires.Wide base.now)
slot_at place Ignored = names.Ignored

-- the slot of a base that is or isn't one of the whole device
abbrev pub slot_if : Bool → Relative → Slot
slot_if is_wide r = if is_wide then Wide r.base else Local r
