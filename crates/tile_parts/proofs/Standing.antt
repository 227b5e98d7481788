-- The muxes and arcs that are made by slots are those of the device.
use Rattle.std.proofs.Common.{◌≡◌, ℕ, ◌+◌, Bool, true, false, List, [], ◌∷◌, inl, inr, map, filter_map, flat_map, Option, None, Some, option_map, option_and_then, refl, sym, ap, ◌∙◌}
use Rattle.std.specs.List.{enumerate_from}
use Rattle.words.specs.Members.{In}
use Rattle.links.proofs.Members.{in_left, in_map, in_flat_map}
use Rattle.records.specs.Database.{Arc, Mux}
use Rattle.records.specs.Grid.{Tile}
use Rattle.records.specs.Profile.{Rules}
use Rattle.fabric.specs.Wires.{Wire}
use Rattle.fabric.specs.WireOfName.{wire_of_name}
use Rattle.fabric.specs.TileWires.{named_wire}
use Rattle.fabric.specs.Device.{Device, database_at}
use Rattle.fabric.specs.GraphOf.{number_of as wire_number, number_in}
use Rattle.device_names.specs.TileNames.{is_ignored, mux_names, routing_names, tile_names}
use Rattle.name_numbers.specs.Numbers.{number_of}
use Rattle.tile_types.specs.Types.{slot_names}
use Rattle.slot_wires.specs.Numbers.{slot_numbers}
use Rattle.mux_rows.specs.MuxTable.{MuxNumbers}
use Rattle.graph_lists.specs.ArcLists.{ArcNumbers}
use Rattle.graph_numbers.specs.Numbers.{mux_in, tile_mux_numbers, source_in, mux_arc_numbers}
use Rattle.tile_parts.specs.Slots.{MuxSlots, mux_slots, wire_at, muxes_in, arcs_in}
use Rattle.tile_parts.proofs.Known.{in_once, counted, wireless}

-- lists of what is made of numbered elements
module _ {X Y Z : Type 0} (f : X → Y) (F : ℕ × Y → Option Z) (G : ℕ × X → Option Z) where
  of_same : (e : ℕ × X) (n : ℕ) (xs : List X) → (o : Option Z) → G e ≡ o → F (e.0, f e.1) ≡ G e → filter_map F (enumerate_from n (map f xs)) ≡ filter_map G (enumerate_from n xs)
      → filter_map F ((e.0, f e.1) ∷ enumerate_from n (map f xs)) ≡ filter_map G (e ∷ enumerate_from n xs)
  of_same e n xs None h same rest = rw (same, h) rest
  of_same e n xs (Some z) h same rest = rw (same, h) (ap (λ zs. z ∷ zs) rest)

  pub same_made : (n : ℕ) (xs : List X) → ((k : ℕ) (x : X) → In xs x → F (k, f x) ≡ G (k, x)) → filter_map F (enumerate_from n (map f xs)) ≡ filter_map G (enumerate_from n xs)
  same_made n [] each = refl
  same_made n (x ∷ xs) each = of_same (n, x) (n + 1) xs (G (n, x)) refl (each n x (inl refl)) (same_made (n + 1) xs (λ k y i. each k y (inr i)))

-- a name of another chip has no wire
ignored_in : (rules : Rules) (name : List ℕ) (o : Option (ℕ × ℕ)) → is_ignored rules name ≡ true → option_and_then (λ place. named_wire (wire_of_name place name rules)) o ≡ None
ignored_in rules name None e = refl
ignored_in rules name (Some place) e = rw e refl

module _ (device : Device) (wires : List Wire) (tile : Tile) where
  abbrev rules : Rules
  rules = device.profile.rules

  abbrev wire : List ℕ → Option ℕ
  wire name = number_in wires rules tile name

  abbrev names : List (List ℕ)
  names = slot_names device tile

  pub no_wire : (name : List ℕ) → is_ignored rules name ≡ true → wire name ≡ None
  no_wire name e = ap (option_and_then (wire_number wires)) (ignored_in rules name tile.place e)

  in_names : (mux : Mux) (name : List ℕ) → In (database_at device.types tile).muxes mux → In (mux_names rules mux) name → In names name
  in_names mux name i j =
      in_once [] (tile_names device tile) name (inr (in_left (routing_names device tile) _ name (in_left (flat_map (mux_names rules) (database_at device.types tile).muxes) _ name
      (in_flat_map (mux_names rules) (database_at device.types tile).muxes mux name i j))))

  sink_names : (mux : Mux) → is_ignored rules mux.sink ≡ false → In (mux_names rules mux) mux.sink
  sink_names mux e = rw e (inl refl)

  source_names : (mux : Mux) (arc : Arc) → is_ignored rules mux.sink ≡ false → In mux.arcs arc → In (mux_names rules mux) arc.source
  source_names mux arc e i = rw e (inr (in_map (λ (a : Arc). a.source) mux.arcs arc i))

  sink_wire_of : (mux : Mux) → In (database_at device.types tile).muxes mux → (b : Bool) → is_ignored rules mux.sink ≡ b → wire_at (slot_numbers device wires tile) (number_of names mux.sink) ≡ wire mux.sink
  sink_wire_of mux i true e = wireless wire names mux.sink (no_wire mux.sink e) ∙ sym (no_wire mux.sink e)
  sink_wire_of mux i false e = counted wire names mux.sink (in_names mux mux.sink i (sink_names mux e))

  sink_wire : (mux : Mux) → In (database_at device.types tile).muxes mux → wire_at (slot_numbers device wires tile) (number_of names mux.sink) ≡ wire mux.sink
  sink_wire mux i = sink_wire_of mux i (is_ignored rules mux.sink) refl

  -- the muxes of a tile by slots are its muxes
  pub muxes_are : (number : ℕ) → muxes_in number (slot_numbers device wires tile) (map (mux_slots names) (database_at device.types tile).muxes) ≡ tile_mux_numbers device wires number tile
  muxes_are number =
      same_made (mux_slots names) (λ (m : ℕ × MuxSlots). option_map (λ sink. let x : MuxNumbers = record { tile = number; place = m.0; sink = sink } in x) (wire_at (slot_numbers device wires tile) m.1.sink))
      (λ (m : ℕ × Mux). mux_in device wires number tile m.0 m.1) 0 (database_at device.types tile).muxes
      (λ k mux i. ap (option_map (λ sink. let x : MuxNumbers = record { tile = number; place = k; sink = sink } in x)) (sink_wire mux i))

  -- a sink with a wire isn't ignored
  not_ignored : (name : List ℕ) (sink : ℕ) → wire name ≡ Some sink → (b : Bool) → is_ignored rules name ≡ b → is_ignored rules name ≡ false
  not_ignored name sink h true e = absurd (let both : None ≡ Some sink = sym (no_wire name e) ∙ h in let no : ⊥ = cc in no)
  not_ignored name sink h false e = e

  -- the arcs of a mux by slots are its arcs
  pub arcs_are : (number sink : ℕ) (mux : Mux) → In (database_at device.types tile).muxes mux → wire mux.sink ≡ Some sink
      → arcs_in (slot_numbers device wires tile) number sink (mux_slots names mux).sources ≡ mux_arc_numbers device wires tile number sink mux
  arcs_are number sink mux i h =
      let kept = not_ignored mux.sink sink h (is_ignored rules mux.sink) refl in
      same_made (λ (a : Arc). number_of names a.source) (λ (a : ℕ × Option ℕ). option_map (λ source. let x : ArcNumbers = record { mux = number; place = a.0; source = source; sink = sink } in x) (wire_at (slot_numbers device wires tile) a.1))
      (λ (a : ℕ × Arc). source_in device wires tile number sink a.0 a.1) 0 mux.arcs
      (λ k arc j. ap (option_map (λ source. let x : ArcNumbers = record { mux = number; place = k; source = source; sink = sink } in x)) (counted wire names arc.source (in_names mux arc.source i (source_names mux arc kept j))))
