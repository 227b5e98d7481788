-- The line of an arc stands for it.
use Rattle.std.proofs.Common.{◌≡◌, ℕ, Bool, true, false, List, [], Option, Some, None, option_map, refl, sym, ap, ◌∙◌, eq-eqb}
use Rattle.std.specs.Prelude.{slice_get, find, ◌==◌, ◌&&◌}
use Rattle.std.specs.Option.{option_and_then, option_map_or}
use Rattle.std.specs.List.{enumerate_from}
use Rattle.std.specs.Str.{bytes_eq}
use Rattle.std.proofs.lemmas.Bool.{and_parts, and_from, eqb-true}
use Rattle.std.specs.Cmp.Lexicographic.{same_text, other_text}
use Rattle.words.specs.Members.{In}
use Rattle.words.specs.Twice.{NoTwo}
use Rattle.records.specs.Database.{Mux}
use Rattle.records.specs.Grid.{Tile, origin_of}
use Rattle.fabric.specs.Device.{TypeDb, Device, database_at}
use Rattle.fabric.specs.Graph.{GraphMux, GraphArc, Graph}
use Rattle.fabric.specs.GraphOf.{number_in, tile_muxes, muxes_of, IsGraph}
use Rattle.fabric.specs.Image.{tile_named, mux_named, arc_named, arc_of_line}
use Rattle.fabric_laws.specs.Stands.{ArcStands}
use Rattle.fabric_laws.proofs.Members.{in_filter_map_from, find_from, find_to}
use Rattle.fabric_laws.proofs.Numbered.{get_in, at_position, position_there}
use Rattle.fabric_laws.proofs.Graphs.{some_same, arc_of, one_arc}
use Rattle.fabric_laws.proofs.Standing.{arc_stands, mux_stands}
use Rattle.repair.specs.Lines.{TileLine, line_of_arc}
use Rattle.layout_laws.specs.Named.{NamesOnce}
use Rattle.layout_laws.specs.MoreLines.{StandsForArc}
use Rattle.layout_laws.proofs.Apart.{made, spread, one_number, numbers_apart}

-- names are the same bytes
pub same_bytes : (xs ys : List ℕ) → bytes_eq xs ys ≡ true → xs ≡ ys
same_bytes xs ys h = same_text xs ys (sym h)

pub bytes_same : (xs ys : List ℕ) → xs ≡ ys → bytes_eq xs ys ≡ true
bytes_same xs ys e = go (bytes_eq xs ys) refl
  where
    go : (b : Bool) → b ≡ bytes_eq xs ys → b ≡ true
    go true h = refl
    go false h = absurd (other_text xs ys h e)

module _ (device : Device) (g : Graph) (is : IsGraph device g) (once : NamesOnce device) where
  -- muxes of one tile and one sink's name are alike
  SameMux : GraphMux → GraphMux → Type 0
  SameMux m n = (m.tile ≡ n.tile) × (m.mux.sink ≡ n.mux.sink)

  found_type : (tile : Tile) (o : Option TypeDb) → ((t : TypeDb) → o ≡ Some t → In device.types t) → NoTwo (λ m n. m.sink ≡ n.sink) (option_map_or (λ t. t.db) o (record { muxes = []; words = []; enums = []; fixed = [] })).muxes
  found_type tile None h = tt
  found_type tile (Some t) h = once.sinks t (h t refl)

  sinks_apart : (tile : Tile) → NoTwo (λ m n. m.sink ≡ n.sink) (database_at device.types tile).muxes
  sinks_apart tile = found_type tile (find (λ t. bytes_eq t.kind tile.kind) device.types) (λ t e. (find_from (λ u. bytes_eq u.kind tile.kind) device.types t e).0)

  found_mux : (tile : Tile) (m : Mux) (o : Option TypeDb) → ((t : TypeDb) → o ≡ Some t → In device.types t)
      → In (option_map_or (λ t. t.db) o (record { muxes = []; words = []; enums = []; fixed = [] })).muxes m → NoTwo (λ a b. a.source ≡ b.source) m.arcs
  found_mux tile m None h i = absurd i
  found_mux tile m (Some t) h i = once.sources t m (h t refl) i

  sources_apart : (tile : Tile) (m : Mux) → In (database_at device.types tile).muxes m → NoTwo (λ a b. a.source ≡ b.source) m.arcs
  sources_apart tile m i = found_mux tile m (find (λ t. bytes_eq t.kind tile.kind) device.types) (λ t e. (find_from (λ u. bytes_eq u.kind tile.kind) device.types t e).0) i

  -- a mux that is made of one of the database
  mux_made : (number : ℕ) (tile : Tile) (mux : Mux) (m : GraphMux) (o : Option ℕ)
      → option_map (λ sink. let built : GraphMux = record { tile = number; origin = origin_of tile; sink = sink; mux = mux } in built) o ≡ Some m → (m.tile ≡ number) × (m.mux ≡ mux)
  mux_made number tile mux m None e = absurd (let no : ⊥ = cc in no)
  mux_made number tile mux m (Some s) e = (sym (ap (λ x. x.tile) (some_same e)), sym (ap (λ x. x.mux) (some_same e)))

  tile_apart : (number : ℕ) (tile : Tile) → NoTwo SameMux (tile_muxes device g.wires number tile)
  unfolding SameMux
  tile_apart number tile = made (λ m n. m.sink ≡ n.sink) SameMux
      (λ mux. option_map (λ sink. let built : GraphMux = record { tile = number; origin = origin_of tile; sink = sink; mux = mux } in built) (number_in g.wires device.profile.rules tile mux.sink))
      (λ x y u v e f s. let p = mux_made number tile x u (number_in g.wires device.profile.rules tile x.sink) e in
      let q = mux_made number tile y v (number_in g.wires device.profile.rules tile y.sink) f in
      sym (ap (λ z. z.sink) p.1) ∙ (s.1 ∙ ap (λ z. z.sink) q.1))
      (database_at device.types tile).muxes (sinks_apart tile)

  tile_is : (number : ℕ) (tile : Tile) (m : GraphMux) → In (tile_muxes device g.wires number tile) m → m.tile ≡ number
  tile_is number tile m i =
      let r = in_filter_map_from (λ mux. option_map (λ sink. let built : GraphMux = record { tile = number; origin = origin_of tile; sink = sink; mux = mux } in built) (number_in g.wires device.profile.rules tile mux.sink)) (database_at device.types tile).muxes m i in
      (mux_made number tile r.0 m (number_in g.wires device.profile.rules tile r.0.sink) r.2).0

  muxes_apart : NoTwo SameMux (muxes_of device g.wires)
  unfolding SameMux
  muxes_apart = spread (λ p q. p.0 ≡ q.0) SameMux (λ t. tile_muxes device g.wires t.0 t.1) (λ t. tile_apart t.0 t.1)
      (λ x y u v i j s. sym (tile_is x.0 x.1 u i) ∙ (s.0 ∙ tile_is y.0 y.1 v j)) (enumerate_from 0 device.grid.tiles) (numbers_apart device.grid.tiles 0)

  -- the mux of a number is found by its names
  one_mux : (i j : ℕ) (m n : GraphMux) → slice_get g.muxes i ≡ Some m → slice_get g.muxes j ≡ Some n → m.tile ≡ n.tile → m.mux.sink ≡ n.mux.sink → i ≡ j
  unfolding SameMux
  one_mux i j m n e f tiles sinks = one_number SameMux (λ x y s. (sym s.0, sym s.1)) (muxes_of device g.wires) muxes_apart i j m n (sym (ap (λ ms. slice_get ms i) is.muxes) ∙ e) (sym (ap (λ ms. slice_get ms j) is.muxes) ∙ f) (tiles, sinks)

  mux_found : (number : ℕ) (m : GraphMux) → slice_get g.muxes number ≡ Some m → mux_named g m.tile m.mux.sink ≡ Some number
  mux_found number m e =
      let test : GraphMux → Bool = (λ n. (n.tile == m.tile) && bytes_eq n.mux.sink m.mux.sink) in
      let p = position_there test g.muxes m (get_in g.muxes number m e) (and_from (m.tile == m.tile) (bytes_eq m.mux.sink m.mux.sink) (eq-eqb m.tile m.tile refl) (bytes_same m.mux.sink m.mux.sink refl)) in
      let q = at_position test g.muxes p.0 p.1 in
      let parts = and_parts (q.0.tile == m.tile) (bytes_eq q.0.mux.sink m.mux.sink) q.1.1 in
      p.1 ∙ ap (λ n. Some n) (one_mux p.0 number q.0 m q.1.0 e (eqb-true q.0.tile m.tile parts.0) (same_bytes q.0.mux.sink m.mux.sink parts.1))

  tile_found : (number : ℕ) (tile : Tile) → slice_get g.grid.tiles number ≡ Some tile → tile_named g tile.name ≡ Some number
  tile_found number tile e =
      let test : Tile → Bool = (λ t. bytes_eq t.name tile.name) in
      let p = position_there test g.grid.tiles tile (get_in g.grid.tiles number tile e) (bytes_same tile.name tile.name refl) in
      let q = at_position test g.grid.tiles p.0 p.1 in
      let tiles = ap (λ x. x.tiles) is.grid in
      p.1 ∙ ap (λ n. Some n) (one_number (λ t u. t.name ≡ u.name) (λ x y s. sym s) device.grid.tiles once.tiles p.0 number q.0 tile
      (sym (ap (λ ts. slice_get ts p.0) tiles) ∙ q.1.0) (sym (ap (λ ts. slice_get ts number) tiles) ∙ e) (same_bytes q.0.name tile.name q.1.1))

  arc_found : (a : GraphArc) → In g.arcs a → arc_named g a.mux a.arc.source ≡ Some a
  arc_found a i = find_to (λ b. (b.mux == a.mux) && bytes_eq b.arc.source a.arc.source) g.arcs a i
      (and_from (a.mux == a.mux) (bytes_eq a.arc.source a.arc.source) (eq-eqb a.mux a.mux refl) (bytes_same a.arc.source a.arc.source refl)) same
    where
      p : ArcStands device g a
      p = arc_stands device g is a i

      same : (b : GraphArc) → In g.arcs b → ((b.mux == a.mux) && bytes_eq b.arc.source a.arc.source) ≡ true → b ≡ a
      same b j h =
          let parts = and_parts (b.mux == a.mux) (bytes_eq b.arc.source a.arc.source) h in
          let mux : b.mux ≡ a.mux = eqb-true b.mux a.mux parts.0 in
          let q = arc_stands device g is b j in
          let muxes : q.mux ≡ p.mux = some_same (sym q.of_mux ∙ ap (slice_get g.muxes) mux ∙ p.of_mux) in
          let m = mux_stands device g is p.mux (get_in g.muxes a.mux p.mux p.of_mux) in
          let place : b.place ≡ a.place = one_number (λ x y. x.source ≡ y.source) (λ x y s. sym s) p.mux.mux.arcs (sources_apart m.tile p.mux.mux m.listed) b.place a.place b.arc a.arc
          (sym (ap (λ x. slice_get x.mux.arcs b.place) muxes) ∙ q.listed) p.listed (same_bytes b.arc.source a.arc.source parts.1) in
          one_arc device g.wires a b (arc_of device g.wires a ((is.arcs.members a).0 i)) (arc_of device g.wires b ((is.arcs.members b).0 j)) (record { mux = sym mux; place = sym place })

  -- the line of an arc, and that it stands for it
  pub own_line : (a : GraphArc) → In g.arcs a → (l : TileLine) × ((line_of_arc g a ≡ Some l) × StandsForArc g l a)
  own_line a i =
      let p = arc_stands device g is a i in
      let tile : slice_get g.grid.tiles p.mux.tile ≡ Some p.tile = ap (λ x. slice_get x.tiles p.mux.tile) is.grid ∙ p.in_tile in
      let l : TileLine = record { tile = p.tile.name; line = record { sink = p.mux.mux.sink; source = a.arc.source; line = 0 } } in (
        l,
        (
          ap (option_and_then (λ mux. option_map (λ t. let made : TileLine = record { tile = t.name; line = record { sink = mux.mux.sink; source = a.arc.source; line = 0 } } in made) (slice_get g.grid.tiles mux.tile))) p.of_mux
              ∙ ap (option_map (λ t. let made : TileLine = record { tile = t.name; line = record { sink = p.mux.mux.sink; source = a.arc.source; line = 0 } } in made)) tile,
          ap (option_and_then (λ t. arc_of_line g t l.line)) (tile_found p.mux.tile p.tile tile)
              ∙ (ap (option_and_then (λ mux. arc_named g mux a.arc.source)) (mux_found a.mux p.mux p.of_mux) ∙ arc_found a i),
        ),
      )
