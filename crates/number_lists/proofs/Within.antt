-- The ends of links, and outputs, are below the number of wires.
use Rattle.std.proofs.Common.{◌≡◌, ℕ, zero, suc, ◌<◌, List, [], ◌∷◌, length, filter_map, slice_get, Option, None, Some, option_map, option_and_then, refl, subst, arith}
use Rattle.links.specs.Links.{Link}
use Rattle.links.proofs.Members.{of_flat_map}
use Rattle.records.specs.Database.{Fixed}
use Rattle.records.specs.Grid.{Tile}
use Rattle.records.specs.Profile.{Rules}
use Rattle.fabric.specs.Wires.{Wire, same_wire}
use Rattle.fabric.specs.Device.{Device, fixed_at, output_names}
use Rattle.fabric.specs.TileWires.{wire_in}
use Rattle.fabric.specs.GraphOf.{number_of, number_in, link_in, fixed_of, outputs_of}
use Rattle.fabric_laws.proofs.Members.{in_filter_map_from}
use Rattle.fabric_laws.proofs.Numbered.{at_position}
use Rattle.link_order.specs.Order.{AreWithin}
use Rattle.link_rows.specs.Kept.{AreBelow}

below_of : {X : Type 0} (xs : List X) (i : ℕ) (x : X) → slice_get xs i ≡ Some x → i < length xs
below_of [] i x h = absurd (let no : ⊥ = cc in no)
below_of (y ∷ ys) zero x h = omega arith
below_of (y ∷ ys) (suc i) x h = (let k = below_of ys i x h in omega arith)

module _ (wires : List Wire) (rules : Rules) (tile : Tile) where
  numbered : (o : Option Wire) (s : ℕ) → option_and_then (number_of wires) o ≡ Some s → s < length wires
  numbered None s h = absurd (let no : ⊥ = cc in no)
  numbered (Some w) s h = let p = at_position (same_wire w) wires s h in below_of wires s p.0 p.1.0

  named : (name : List ℕ) (s : ℕ) → number_in wires rules tile name ≡ Some s → s < length wires
  named name s h = numbered (wire_in rules tile name) s h

  link_ends : (l : Link) (a b : Option ℕ) → ((s : ℕ) → a ≡ Some s → s < length wires) → ((s : ℕ) → b ≡ Some s → s < length wires)
      → option_and_then (λ sink. option_map (λ source. let x : Link = record { source = source; sink = sink } in x) b) a ≡ Some l → (l.source < length wires) × (l.sink < length wires)
  link_ends l None b below_a below_b h = absurd (let no : ⊥ = cc in no)
  link_ends l (Some sink) None below_a below_b h = absurd (let no : ⊥ = cc in no)
  link_ends l (Some sink) (Some source) below_a below_b h =
      let same : (let x : Link = record { source = source; sink = sink } in x) ≡ l = cc in
      subst (λ (x : Link). (x.source < length wires) × (x.sink < length wires)) same (below_b source refl, below_a sink refl)

  link_below : (f : Fixed) (l : Link) → link_in wires rules tile f ≡ Some l → (l.source < length wires) × (l.sink < length wires)
  link_below f l h = link_ends l (number_in wires rules tile f.sink) (number_in wires rules tile f.source) (named f.sink) (named f.source) h

pub links_within : (device : Device) (wires : List Wire) → AreWithin (length wires) (fixed_of device wires)
links_within device wires l i =
    let t = of_flat_map (λ (tile : Tile). filter_map (link_in wires device.profile.rules tile) (fixed_at device tile)) device.grid.tiles l i in
    let f = in_filter_map_from (link_in wires device.profile.rules t.0) (fixed_at device t.0) l t.1.1 in
    link_below wires device.profile.rules t.0 f.0 l f.2

pub outputs_below : (device : Device) (wires : List Wire) → AreBelow (length wires) (outputs_of device wires)
outputs_below device wires w i =
    let t = of_flat_map (λ (tile : Tile). filter_map (number_in wires device.profile.rules tile) (output_names device tile)) device.grid.tiles w i in
    let f = in_filter_map_from (number_in wires device.profile.rules t.0) (output_names device t.0) w t.1.1 in
    named wires device.profile.rules t.0 f.0 w f.2
