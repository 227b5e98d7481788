-- Where arcs stand.
use Rattle.std.proofs.Common.{◌≡◌, ℕ, ◌<◌, List, length, Option, Some, None, option_map, refl, sym, ap, subst, ◌∙◌, arith}
use Rattle.std.specs.Prelude.{slice_get}
use Rattle.std.proofs.lemmas.Option.{slice_get_within}
use Rattle.words.specs.Members.{In}
use Rattle.patterns.specs.Bits.{DeviceBit}
use Rattle.records.specs.Grid.{Tile, origin_of}
use Rattle.fabric.specs.Device.{Device}
use Rattle.fabric.specs.Graph.{GraphMux, GraphArc, Graph}
use Rattle.fabric.specs.GraphOf.{IsGraph}
use Rattle.fabric_laws.proofs.Graphs.{some_same}
use Rattle.fabric_laws.proofs.Numbered.{get_in}
use Rattle.fabric_laws.proofs.Standing.{arc_stands, mux_stands}
use Rattle.graph_lists.specs.ArcLists.{ArcNumbers, numbers_of}

-- what a part of an element is, where that is known
pub record Had {X Y : Type 0} (f : X → Y) (o : Option X) (y : Y) : Type 0 where
  pub element : X
  pub there : o ≡ Some element
  pub is : f element ≡ y

pub had : {X Y : Type 0} (f : X → Y) (o : Option X) (y : Y) → option_map f o ≡ Some y → Had f o y
had f None y h = absurd (let no : ⊥ = cc in no)
had f (Some x) y h = record { element = x; there = refl; is = some_same h }

module _ (device : Device) (g : Graph) (is : IsGraph device g) where
  pub mux_below : (a : ℕ) (n : ArcNumbers) → option_map numbers_of (slice_get g.arcs a) ≡ Some n → n.mux < length g.muxes
  mux_below a n h =
      let arc = had numbers_of (slice_get g.arcs a) n h in
      let stands = arc_stands device g is arc.element (get_in g.arcs a arc.element arc.there) in
      subst (λ m. m < length g.muxes) (ap (λ (x : ArcNumbers). x.mux) arc.is) (slice_get_within g.muxes arc.element.mux stands.mux stands.of_mux)

  pub tile_below : (m t : ℕ) → option_map (λ (mux : GraphMux). mux.tile) (slice_get g.muxes m) ≡ Some t → t < length g.grid.tiles
  tile_below m t h =
      let mux = had (λ (x : GraphMux). x.tile) (slice_get g.muxes m) t h in
      let stands = mux_stands device g is mux.element (get_in g.muxes m mux.element mux.there) in
      subst (λ n. n < length g.grid.tiles) mux.is
      (subst (λ grid. mux.element.tile < length grid.tiles) (sym is.grid) (slice_get_within device.grid.tiles mux.element.tile stands.tile stands.in_tile))

  -- an arc begins where the tile of its mux does
  pub origin_is : (a : ℕ) (n : ArcNumbers) (t : ℕ) (tile : Tile) → option_map numbers_of (slice_get g.arcs a) ≡ Some n
      → option_map (λ (mux : GraphMux). mux.tile) (slice_get g.muxes n.mux) ≡ Some t → Some tile ≡ slice_get g.grid.tiles t
      → option_map (λ (arc : GraphArc). arc.origin) (slice_get g.arcs a) ≡ Some (origin_of tile)
  origin_is a n t tile h k at =
      let arc = had numbers_of (slice_get g.arcs a) n h in
      let stands = arc_stands device g is arc.element (get_in g.arcs a arc.element arc.there) in
      let mux = had (λ (x : GraphMux). x.tile) (slice_get g.muxes n.mux) t k in
      let same_number : arc.element.mux ≡ n.mux = ap (λ (x : ArcNumbers). x.mux) arc.is in
      let same_mux : stands.mux ≡ mux.element = some_same (sym stands.of_mux ∙ (ap (λ m. slice_get g.muxes m) same_number ∙ mux.there)) in
      let in_tile : stands.mux.tile ≡ t = ap (λ (x : GraphMux). x.tile) same_mux ∙ mux.is in
      let same_tile : stands.tile ≡ tile = some_same (sym stands.in_tile ∙ (ap (λ m. slice_get device.grid.tiles m) in_tile ∙ (ap (λ grid. slice_get grid.tiles t) (sym is.grid) ∙ sym at))) in
      ap (λ (o : Option GraphArc). option_map (λ (x : GraphArc). x.origin) o) arc.there ∙ ap (λ o. Some o) (stands.origin ∙ ap origin_of same_tile)
