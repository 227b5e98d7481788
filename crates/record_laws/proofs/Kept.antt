-- Which arcs exist: a source that isn't ignored has a wire in each tile where the mux has one.
use Rattle.std.proofs.Common.{◌≡◌, ℕ, Bool, true, false, List, [], ◌∷◌, ◌++◌, inr, filter_map, flat_map, Option, None, Some, option_and_then, refl, sym, ap, subst, ◌∙◌}
use Rattle.std.specs.Prelude.{pos, ◌+ℤ◌, if◌then◌else◌}
use Rattle.std.specs.Option.{option_map_or}
use Rattle.words.specs.Members.{In}
use Rattle.links.proofs.Members.{in_left, in_flat_map}
use Rattle.records.specs.Database.{Arc, Mux}
use Rattle.records.specs.Grid.{Tile}
use Rattle.records.specs.Profile.{Rules}
use Rattle.fabric.specs.InOrder.{InOrderOnce}
use Rattle.fabric.specs.Wires.{Wire, Local, Wide, wire_cmp, same_wire}
use Rattle.fabric.specs.WireNames.{Named, Ignored}
use Rattle.fabric.specs.WireOfName.{Relative, relative_of, without_chip, begins_with_one, wire_of_name}
use Rattle.fabric.specs.Device.{Device, database_at, fixed_at, output_names, input_names}
use Rattle.fabric.specs.TileWires.{named_wire, wire_in, mux_wires, fixed_wires, tile_wires}
use Rattle.fabric.specs.GraphOf.{number_of, number_in}
use Rattle.fabric_laws.proofs.Members.{in_filter_map_to}
use Rattle.fabric_laws.proofs.Numbered.{position_there}
use Rattle.fabric_laws.proofs.Orders.{same_wire_refl}
use Rattle.record_laws.specs.KeptBits.{is_ignored}

-- the wire of a name that isn't ignored, at a place
abbrev wire_of_relative : ℕ × ℕ → Rules → Relative → Wire
wire_of_relative place rules r = if begins_with_one rules.wide r.base then Wide r.base else Local (pos place.0 +ℤ r.rows) (pos place.1 +ℤ r.columns) r.base

abbrev wire_at : ℕ × ℕ → Rules → List ℕ → Wire
wire_at place rules name = wire_of_relative place rules (relative_of (without_chip rules.chip_prefix name))

of_test : (b : Bool) (w : Wire) → b ≡ false → named_wire (if b then Ignored else Named w) ≡ Some w
of_test true w e = absurd (let no : ⊥ = cc in no)
of_test false w e = refl

is_wire : (place : ℕ × ℕ) (rules : Rules) (name : List ℕ) → is_ignored rules name ≡ false → named_wire (wire_of_name place name rules) ≡ Some (wire_at place rules name)
is_wire place rules name e = of_test (begins_with_one rules.other_chips name) (wire_at place rules name) e

-- what has a number is a wire in a tile with a place
placed : (wires : List Wire) (rules : Rules) (name : List ℕ) (k : ℕ) (o : Option (ℕ × ℕ)) → option_and_then (number_of wires) (option_and_then (λ place. named_wire (wire_of_name place name rules)) o) ≡ Some k
    → (place : ℕ × ℕ) × (o ≡ Some place)
placed wires rules name k None h = absurd (let no : ⊥ = cc in no)
placed wires rules name k (Some place) h = (place, refl)

numbered : (wires : List Wire) (k : ℕ) (o : Option Wire) → option_and_then (number_of wires) o ≡ Some k → (w : Wire) × (o ≡ Some w)
numbered wires k None h = absurd (let no : ⊥ = cc in no)
numbered wires k (Some w) h = (w, refl)

ignored_wire : (place : ℕ × ℕ) (rules : Rules) (name : List ℕ) → is_ignored rules name ≡ true → named_wire (wire_of_name place name rules) ≡ None
ignored_wire place rules name e = rw e refl

no_number : (wires : List Wire) (rules : Rules) (name : List ℕ) (o : Option (ℕ × ℕ)) → is_ignored rules name ≡ true → option_and_then (number_of wires) (option_and_then (λ place. named_wire (wire_of_name place name rules)) o) ≡ None
no_number wires rules name None e = refl
no_number wires rules name (Some place) e = ap (option_and_then (number_of wires)) (ignored_wire place rules name e)

-- a name with a number isn't ignored
pub not_ignored : (wires : List Wire) (rules : Rules) (tile : Tile) (name : List ℕ) (k : ℕ) → number_in wires rules tile name ≡ Some k → is_ignored rules name ≡ false
not_ignored wires rules tile name k h = go (is_ignored rules name) refl
  where
    go : (b : Bool) → is_ignored rules name ≡ b → is_ignored rules name ≡ false
    go true e = absurd (let none : number_in wires rules tile name ≡ None = no_number wires rules name tile.place e in let both : None ≡ Some k = sym none ∙ h in let no : ⊥ = cc in no)
    go false e = e

module _ (device : Device) (wires : List Wire) (named : InOrderOnce wire_cmp (flat_map (tile_wires device) device.grid.tiles) wires)
    (tile : Tile) (here : In device.grid.tiles tile) (mux : Mux) (there : In (database_at device.types tile).muxes mux)
    (sink : ℕ) (driven : number_in wires device.profile.rules tile mux.sink ≡ Some sink) where
  abbrev rules : Rules
  rules = device.profile.rules

  -- the wire of a source is one of the mux
  of_mux : (arc : Arc) (w s : Wire) → In mux.arcs arc → wire_in rules tile arc.source ≡ Some w → wire_in rules tile mux.sink ≡ Some s → In (mux_wires rules tile mux) w
  of_mux arc w s i e f =
      subst (λ o. In (option_map_or (λ t. t ∷ filter_map (λ a. wire_in rules tile a.source) mux.arcs) o []) w) (sym f)
      (inr (in_filter_map_to (λ (a : Arc). wire_in rules tile a.source) mux.arcs arc w i e))

  known : (w : Wire) → In (mux_wires rules tile mux) w → In wires w
  known w i =
      let own = flat_map (mux_wires rules tile) (database_at device.types tile).muxes in
      let linked = flat_map (fixed_wires rules tile) (fixed_at device tile) in
      let of_cells = filter_map (wire_in rules tile) (output_names device tile ++ input_names device tile) in
      (named.members w).1 (in_flat_map (tile_wires device) device.grid.tiles tile w here
      (in_left (own ++ linked) of_cells w (in_left own linked w (in_flat_map (mux_wires rules tile) (database_at device.types tile).muxes mux w there i))))

  has_number : (w : Wire) → In wires w → (k : ℕ) × (number_of wires w ≡ Some k)
  has_number w i = position_there (same_wire w) wires w i (same_wire_refl w)

  pub kept : (arc : Arc) → In mux.arcs arc → is_ignored rules arc.source ≡ false → (k : ℕ) × (number_in wires rules tile arc.source ≡ Some k)
  kept arc i e =
      let p = placed wires rules mux.sink sink tile.place driven in
      let s = numbered wires sink (wire_in rules tile mux.sink) driven in
      let w = wire_at p.0 rules arc.source in
      let is : wire_in rules tile arc.source ≡ Some w = ap (option_and_then (λ place. named_wire (wire_of_name place arc.source rules))) p.1 ∙ is_wire p.0 rules arc.source e in
      let k = has_number w (known w (of_mux arc w s.0 i is s.1)) in
      (k.0, ap (option_and_then (number_of wires)) is ∙ k.1)
