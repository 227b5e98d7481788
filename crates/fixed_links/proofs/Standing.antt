-- The links and cell outputs that are made by slots are those of the device.
use Rattle.std.proofs.Common.{◌≡◌, ℕ, Bool, true, false, List, [], ◌∷◌, ◌++◌, inl, inr, map, filter_map, flat_map, Option, None, Some, option_map, option_and_then, refl, sym, ap, ◌∙◌}
use Rattle.std.specs.Prelude.{◌||◌}
use Rattle.words.specs.Members.{In}
use Rattle.links.proofs.Members.{in_left, in_right, in_flat_map}
use Rattle.links.specs.Links.{Link}
use Rattle.records.specs.Database.{Fixed}
use Rattle.records.specs.Grid.{Tile}
use Rattle.records.specs.Profile.{Rules}
use Rattle.fabric.specs.Wires.{Wire}
use Rattle.fabric.specs.Device.{Device, database_at, fixed_at, output_names, input_names}
use Rattle.fabric.specs.GraphOf.{number_in, link_in}
use Rattle.device_names.specs.TileNames.{is_ignored, fixed_names, mux_names, routing_names, tile_names}
use Rattle.name_numbers.specs.Numbers.{number_of}
use Rattle.tile_types.specs.Types.{slot_names}
use Rattle.slot_wires.specs.Numbers.{slot_numbers}
use Rattle.tile_parts.specs.Slots.{wire_at}
use Rattle.tile_parts.proofs.Known.{in_once, counted, wireless}
use Rattle.tile_parts.proofs.Standing.{no_wire}
use Rattle.fixed_links.specs.Slots.{FixedSlots, fixed_slots, link_at, links_in, outputs_in, type_links}
use Rattle.fixed_links.specs.Tiles.{tile_fixed, tile_outputs}

-- what is made of each by one function is what another one makes
same_made : {X Y Z : Type 0} (f : X → Y) (F : Y → Option Z) (G : X → Option Z) (xs : List X) → ((x : X) → In xs x → F (f x) ≡ G x) → filter_map F (map f xs) ≡ filter_map G xs
same_made f F G [] each = refl
same_made {X} {Y} {Z} f F G (x ∷ xs) each = go (G x) refl (same_made f F G xs (λ y i. each y (inr i)))
  where
    go : (o : Option Z) → G x ≡ o → filter_map F (map f xs) ≡ filter_map G xs → filter_map F (f x ∷ map f xs) ≡ filter_map G (x ∷ xs)
    go None h rest = rw (each x (inl refl), h) rest
    go (Some z) h rest = rw (each x (inl refl), h) (ap (λ zs. z ∷ zs) rest)

-- no link without a source
no_source : (row : Option ℕ) → option_and_then (λ (sink : ℕ). option_map (λ (source : ℕ). let x : Link = record { source = source; sink = sink } in x) None) row ≡ None
no_source None = refl
no_source (Some s) = refl

module _ (device : Device) (wires : List Wire) (tile : Tile) where
  abbrev rules : Rules
  rules = device.profile.rules

  abbrev wire : List ℕ → Option ℕ
  wire name = number_in wires rules tile name

  abbrev names : List (List ℕ)
  names = slot_names device tile

  abbrev row : List (Option ℕ)
  row = slot_numbers device wires tile

  -- the names of a fixed connection of which no end is ignored count
  ends_count : (fixed : Fixed) → In (fixed_at device tile) fixed → (name : List ℕ) → In (fixed_names rules fixed) name → In names name
  ends_count fixed i name j =
      in_once [] (tile_names device tile) name (inr (in_left (routing_names device tile) _ name
      (in_right (flat_map (mux_names rules) (database_at device.types tile).muxes) _ name (in_flat_map (fixed_names rules) (fixed_at device tile) fixed name i j))))

  both_ends : (fixed : Fixed) → is_ignored rules fixed.sink ≡ false → is_ignored rules fixed.source ≡ false → fixed_names rules fixed ≡ fixed.sink ∷ fixed.source ∷ []
  both_ends fixed e d = rw (e, d) refl

  link_made : (fixed : Fixed) → In (fixed_at device tile) fixed → (a b : Bool) → is_ignored rules fixed.sink ≡ a → is_ignored rules fixed.source ≡ b
      → link_at row (fixed_slots names fixed) ≡ link_in wires rules tile fixed
  link_made fixed i true b e d =
      let slot = wireless wire names fixed.sink (no_wire device wires tile fixed.sink e) in
      let none = no_wire device wires tile fixed.sink e in
      rw (slot, none) refl
  link_made fixed i false true e d =
      let slot = wireless wire names fixed.source (no_wire device wires tile fixed.source d) in
      let none = no_wire device wires tile fixed.source d in
      rw (slot, none) (no_source (wire_at row (number_of names fixed.sink)) ∙ sym (no_source (wire fixed.sink)))
  link_made fixed i false false e d =
      let sink = counted wire names fixed.sink (ends_count fixed i fixed.sink (rw (both_ends fixed e d) (inl refl))) in
      let source = counted wire names fixed.source (ends_count fixed i fixed.source (rw (both_ends fixed e d) (inr (inl refl)))) in
      rw (sink, source) refl

  pub links_are : links_in row (type_links device tile).fixed ≡ tile_fixed device wires tile
  links_are = same_made (fixed_slots names) (link_at row) (link_in wires rules tile) (fixed_at device tile) (λ f i. link_made f i (is_ignored rules f.sink) (is_ignored rules f.source) refl refl)

  output_counts : (name : List ℕ) → In (output_names device tile) name → In names name
  output_counts name i = in_once [] (tile_names device tile) name (inr (in_right (routing_names device tile) _ name (in_left (output_names device tile) (input_names device tile) name i)))

  pub outputs_are : outputs_in row (type_links device tile).outputs ≡ tile_outputs device wires tile
  outputs_are = same_made (number_of names) (wire_at row) wire (output_names device tile) (λ name i. counted wire names name (output_counts name i))
