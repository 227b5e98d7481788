-- The wires of slots are those of their names.
use Rattle.std.proofs.Common.{◌≡◌, ℕ, zero, suc, List, [], ◌∷◌, filter_map, Some, refl, ap, ◌∙◌, arith}
use Rattle.std.specs.List.{All, AllZip, cons_option}
use Rattle.records.specs.Grid.{Tile}
use Rattle.records.specs.Profile.{Rules}
use Rattle.fabric.specs.TileWires.{named_wire, wire_in}
use Rattle.fabric.specs.WireOfName.{wire_of_name}
use Rattle.wire_names.specs.Slots.{slot_at}
use Rattle.wire_names.specs.declared.slot.Slot.{Slot}
use Rattle.tile_types.specs.Slots.{IsSlotOf}
use Rattle.device_names.proofs.SameNames.{wires_at_place}
use Rattle.device_wires.specs.Slots.{CanBeKeptAnywhere}

-- at a place slots stand for the wires of their names
same_wires : (rules : Rules) (place : ℕ × ℕ) (names : List (List ℕ)) (slots : List Slot) → AllZip (IsSlotOf rules) names slots
    → filter_map (λ slot. named_wire (slot_at place slot)) slots ≡ filter_map (λ name. named_wire (wire_of_name place name rules)) names
same_wires rules place [] [] are = refl
same_wires rules place [] (s ∷ ss) are = absurd are
same_wires rules place (n ∷ ns) [] are = absurd are
same_wires rules place (n ∷ ns) (s ∷ ss) are =
    let here = ap named_wire (are.0.stands place.0 place.1) in
    let rest = same_wires rules place ns ss are.1 in
    λ i. cons_option (here i) (rest i)

-- so in a tile
pub wires_of_slots : (rules : Rules) (tile : Tile) (place : ℕ × ℕ) (names : List (List ℕ)) (slots : List Slot) → tile.place ≡ Some place → AllZip (IsSlotOf rules) names slots
    → filter_map (λ slot. named_wire (slot_at place slot)) slots ≡ filter_map (wire_in rules tile) names
wires_of_slots rules tile place names slots is are = same_wires rules place names slots are ∙ wires_at_place rules tile place names is

-- and each can be kept
pub all_short : (rules : Rules) (names : List (List ℕ)) (slots : List Slot) → AllZip (IsSlotOf rules) names slots → All CanBeKeptAnywhere slots
all_short rules [] [] are k d below = absurd (omega arith)
all_short rules [] (s ∷ ss) are k d below = absurd are
all_short rules (n ∷ ns) [] are k d below = absurd are
all_short rules (n ∷ ns) (s ∷ ss) are zero d below = are.0.short
all_short rules (n ∷ ns) (s ∷ ss) are (suc k) d below = all_short rules ns ss are.1 k d (omega arith)
