-- The links and the cell outputs of the graph of a device are between its wires.
use Rattle.std.proofs.Common.{◌≡◌, ℕ, ◌<◌, Bool, List, [], length, map, filter, filter_map, flat_map, Option, Some, None, option_map, option_and_then, refl, sym, ap, subst, ◌∙◌, inl, inr}
use Rattle.std.specs.Prelude.{slice_get}
use Rattle.std.proofs.lemmas.Option.{slice_get_within}
use Rattle.words.specs.Members.{In}
use Rattle.patterns.specs.Bits.{Bits}
use Rattle.records.specs.Database.{Fixed}
use Rattle.records.specs.Grid.{Tile}
use Rattle.links.specs.Links.{Link}
use Rattle.links.proofs.Members.{in_either, of_flat_map, of_map}
use Rattle.fabric.specs.Device.{Device, fixed_at, output_names}
use Rattle.fabric.specs.Graph.{GraphArc, Graph}
use Rattle.fabric.specs.GraphOf.{IsGraph, link_in, number_in}
use Rattle.fabric.specs.Links.{is_chosen, link_of, links_of}
use Rattle.fabric_laws.proofs.Graphs.{some_same}
use Rattle.fabric_laws.proofs.Members.{in_filter_from, in_filter_map_from}
use Rattle.fabric_laws.proofs.Standing.{arc_stands, stands}
use Rattle.link_order.specs.Order.{AreWithin}

module _ (device : Device) (g : Graph) (is : IsGraph device g) where
  named_below : (tile : Tile) (name : List ℕ) (n : ℕ) → number_in g.wires device.profile.rules tile name ≡ Some n → n < length g.wires
  named_below tile name n h = let s = stands device g tile name n h in slice_get_within g.wires n s.wire s.numbered

  -- the two ends of a link are below the number of wires
  Within : Link → Type 0
  Within l = (l.source < length g.wires) × (l.sink < length g.wires)

  fixed_by : (tile : Tile) (fixed : Fixed) (l : Link) (sink source : Option ℕ) → number_in g.wires device.profile.rules tile fixed.sink ≡ sink → number_in g.wires device.profile.rules tile fixed.source ≡ source
      → option_and_then (λ (s : ℕ). option_map (λ (x : ℕ). let made : Link = record { source = x; sink = s } in made) source) sink ≡ Some l → Within l
  unfolding Within
  fixed_by tile fixed l None source e f h = absurd (let no : ⊥ = cc in no)
  fixed_by tile fixed l (Some s) None e f h = absurd (let no : ⊥ = cc in no)
  fixed_by tile fixed l (Some s) (Some x) e f h =
      let same : record { source = x; sink = s } ≡ l = some_same h in
      subst (λ (k : Link). (k.source < length g.wires) × (k.sink < length g.wires)) same (named_below tile fixed.source x f, named_below tile fixed.sink s e)

  fixed_within : (l : Link) → In g.fixed l → Within l
  fixed_within l i =
      let r = of_flat_map (λ tile. filter_map (link_in g.wires device.profile.rules tile) (fixed_at device tile)) device.grid.tiles l ((is.fixed.members l).0 i) in
      let s = in_filter_map_from (link_in g.wires device.profile.rules r.0) (fixed_at device r.0) l r.1.1 in
      fixed_by r.0 s.0 l (number_in g.wires device.profile.rules r.0 s.0.sink) (number_in g.wires device.profile.rules r.0 s.0.source) refl refl s.2

  arc_within : (a : GraphArc) → In g.arcs a → Within (link_of a)
  unfolding Within
  arc_within a i =
      let s = arc_stands device g is a i in
      (slice_get_within g.wires a.source s.source.wire s.source.numbered, slice_get_within g.wires a.sink s.sink.wire s.sink.numbered)

  pub links_within : (image : Bits) → AreWithin (length g.wires) (links_of g image)
  unfolding Within
  links_within image l i = elim (in_either (map link_of (filter (is_chosen g image) g.arcs)) g.fixed l i) [
    | inl j ↦ (let r = of_map link_of (filter (is_chosen g image) g.arcs) l j in
        let a = in_filter_from (is_chosen g image) g.arcs r.0 r.1.0 in
        subst (λ (k : Link). (k.source < length g.wires) × (k.sink < length g.wires)) r.1.1 (arc_within r.0 a.0))
    | inr j ↦ fixed_within l j
  ]

  pub outputs_within : (c : ℕ) → In g.outputs c → c < length g.wires
  outputs_within c i =
      let r = of_flat_map (λ tile. filter_map (number_in g.wires device.profile.rules tile) (output_names device tile)) device.grid.tiles c ((is.outputs.members c).0 i) in
      let s = in_filter_map_from (number_in g.wires device.profile.rules r.0) (output_names device r.0) c r.1.1 in
      named_below r.0 s.0 c s.2
