-- The numbers of slots in a tile are those of their names.
use Rattle.std.proofs.Common.{◌≡◌, ℕ, List, [], ◌∷◌, map, None, Some, refl, sym, ap, ◌∙◌}
use Rattle.std.specs.Prelude.{option_and_then}
use Rattle.std.specs.List.{AllZip}
use Rattle.records.specs.Grid.{Tile}
use Rattle.records.specs.Profile.{Rules}
use Rattle.fabric.specs.Wires.{Wire}
use Rattle.fabric.specs.GraphOf.{number_in, number_of}
use Rattle.wire_names.specs.Kept.{number_of_name}
use Rattle.wire_names.specs.Slots.{slot_at}
use Rattle.wire_names.specs.declared.slot.Slot.{Slot}
use Rattle.tile_types.specs.Slots.{IsSlotOf}
use Rattle.device_names.proofs.SameNames.{number_at_place, wire_here}

module _ (wires : List Wire) (rules : Rules) (tile : Tile) where
  -- at the tile's place
  pub numbers_at_place : (place : ℕ × ℕ) (names : List (List ℕ)) (slots : List Slot) → tile.place ≡ Some place → AllZip (IsSlotOf rules) names slots
      → map (λ slot. number_of_name wires (slot_at place slot)) slots ≡ map (number_in wires rules tile) names
  numbers_at_place place [] [] is are = refl
  numbers_at_place place [] (s ∷ ss) is are = absurd are
  numbers_at_place place (n ∷ ns) [] is are = absurd are
  numbers_at_place place (n ∷ ns) (s ∷ ss) is are =
      let here = ap (number_of_name wires) (are.0.stands place.0 place.1) ∙ number_at_place wires rules tile place n is in
      let rest = numbers_at_place place ns ss is are.1 in
      λ i. here i ∷ rest i

  -- in a tile without a place there are none
  pub no_numbers : (names : List (List ℕ)) (slots : List Slot) → tile.place ≡ None → AllZip (IsSlotOf rules) names slots
      → map (λ slot. None) slots ≡ map (number_in wires rules tile) names
  no_numbers [] [] is are = refl
  no_numbers [] (s ∷ ss) is are = absurd are
  no_numbers (n ∷ ns) [] is are = absurd are
  no_numbers (n ∷ ns) (s ∷ ss) is are =
      let here : None ≡ number_in wires rules tile n = sym (ap (λ here. option_and_then (number_of wires) (wire_here rules here n)) is) in
      let rest = no_numbers ns ss is are.1 in
      λ i. here i ∷ rest i
