-- The wires of slots are the wires that tiles name.
use Rattle.std.proofs.Common.{◌≡◌, ◌⊎◌, inl, inr, ℕ, Bool, true, false, List, [], ◌∷◌, ◌++◌, bytes_eq, Option, Some, None, refl, sym, subst}
use Rattle.std.specs.Prelude.{flat_map, if◌then◌else◌}
use Rattle.std.specs.Option.{is_some}
use Rattle.std.proofs.lemmas.Slice.Eq.{bytes_eq-Decides}
use Rattle.words.specs.Members.{In}
use Rattle.links.proofs.Members.{in_left, in_right, in_either, in_flat_map, of_flat_map}
use Rattle.fabric_laws.proofs.Members.{in_filter_map_to, in_filter_map_from}
use Rattle.fabric_laws.proofs.Numbered.{at_position, get_in}
use Rattle.records.specs.Grid.{Tile}
use Rattle.fabric.specs.Wires.{Wire, wire_cmp}
use Rattle.fabric.specs.InOrder.{InOrderOnce}
use Rattle.fabric.specs.Device.{Device}
use Rattle.fabric.specs.TileWires.{tile_wires, wire_in}
use Rattle.name_numbers.specs.Numbers.{each_once, number_of, with_name}
use Rattle.device_names.specs.TileNames.{tile_names}
use Rattle.device_names.proofs.SameNames.{tile_wires_named}
use Rattle.tile_types.specs.Types.{slot_names}
use Rattle.device_wires.specs.Slots.{slot_wires}
use Rattle.device_wires.specs.Named.{named_wires}

-- names with one more have that one and the others, and no more
with_one : (seen : List (List ℕ)) (name x : List ℕ) → In (with_name seen name) x → In seen x ⊎ (name ≡ x)
with_one seen name x h = go (is_some (number_of seen name)) h
  where
    go : (b : Bool) → In (if b then seen else seen ++ name ∷ []) x → In seen x ⊎ (name ≡ x)
    go true i = inl i
    go false i = elim (in_either seen (name ∷ []) x i) [ inl j ↦ inl j | inr j ↦ elim j [ inl e ↦ inr e | inr k ↦ absurd k ] ]

still_in : (seen : List (List ℕ)) (name x : List ℕ) → In seen x → In (with_name seen name) x
still_in seen name x h = go (is_some (number_of seen name))
  where
    go : (b : Bool) → In (if b then seen else seen ++ name ∷ []) x
    go true = h
    go false = in_left seen (name ∷ []) x h

now_in : (seen : List (List ℕ)) (name : List ℕ) → In (with_name seen name) name
now_in seen name = go (number_of seen name) refl
  where
    go : (o : Option ℕ) → number_of seen name ≡ o → In (if is_some o then seen else seen ++ name ∷ []) name
    go None e = in_right seen (name ∷ []) name (inl refl)
    go (Some n) e =
        let r = at_position (bytes_eq name) seen n e in
        let same : name ≡ r.0 = (bytes_eq-Decides name r.0).0 r.1.1 in
        subst (In seen) (sym same) (get_in seen n r.0 r.1.0)

-- so do names, each once
once_from : (seen names : List (List ℕ)) (x : List ℕ) → In (each_once seen names) x → In seen x ⊎ In names x
once_from seen [] x h = inl h
once_from seen (n ∷ ns) x h = elim (once_from (with_name seen n) ns x h) [
  | inl i ↦ elim (with_one seen n x i) [ inl j ↦ inl j | inr e ↦ inr (inl e) ]
  | inr i ↦ inr (inr i)
]

once_seen : (seen names : List (List ℕ)) (x : List ℕ) → In seen x → In (each_once seen names) x
once_seen seen [] x h = h
once_seen seen (n ∷ ns) x h = once_seen (with_name seen n) ns x (still_in seen n x h)

once_to : (seen names : List (List ℕ)) (x : List ℕ) → In names x → In (each_once seen names) x
once_to seen [] x h = absurd h
once_to seen (n ∷ ns) x h = elim h [
  | inl e ↦ once_seen (with_name seen n) ns x (subst (In (with_name seen n)) e (now_in seen n))
  | inr i ↦ once_to (with_name seen n) ns x i
]

module _ (device : Device) where
  wire_of_slot : (tile : Tile) (w : Wire) → In (slot_wires device tile) w → In (tile_wires device tile) w
  wire_of_slot tile w h =
      let wire = wire_in device.profile.rules tile in
      let r = in_filter_map_from wire (slot_names device tile) w h in
      let named : In (tile_names device tile) r.0 = elim (once_from [] (tile_names device tile) r.0 r.1) [ inl i ↦ absurd i | inr i ↦ i ] in
      subst (λ ws. In ws w) (sym (tile_wires_named device tile)) (in_filter_map_to wire (tile_names device tile) r.0 w named r.2)

  slot_of_wire : (tile : Tile) (w : Wire) → In (tile_wires device tile) w → In (slot_wires device tile) w
  slot_of_wire tile w h =
      let wire = wire_in device.profile.rules tile in
      let r = in_filter_map_from wire (tile_names device tile) w (subst (λ ws. In ws w) (tile_wires_named device tile) h) in
      in_filter_map_to wire (slot_names device tile) r.0 w (once_to [] (tile_names device tile) r.0 r.1) r.2

  piecewise : {X : Type 0} (f g : Tile → List X) → ((tile : Tile) (x : X) → In (f tile) x → In (g tile) x) → (tiles : List Tile) (x : X) → In (flat_map f tiles) x → In (flat_map g tiles) x
  piecewise f g each tiles x h = let r = of_flat_map f tiles x h in in_flat_map g tiles r.0 x r.1.0 (each r.0 x r.1.1)

  -- wires in order that are those of the slots are those that tiles name
  pub named_in_order : (wires : List Wire) → InOrderOnce wire_cmp (flat_map (slot_wires device) device.grid.tiles) wires → InOrderOnce wire_cmp (named_wires device) wires
  named_in_order wires are = record {
    rising = are.rising;
    members = λ w. (
      (λ h. piecewise (slot_wires device) (tile_wires device) wire_of_slot device.grid.tiles w ((are.members w).0 h)),
      (λ h. (are.members w).1 (piecewise (tile_wires device) (slot_wires device) slot_of_wire device.grid.tiles w h)),
    );
  }
