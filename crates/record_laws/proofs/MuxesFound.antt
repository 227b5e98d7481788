-- The mux of a name is found by its place, since the places of a tile's muxes rise.
use Rattle.std.proofs.Common.{◌≡◌, ℕ, ◌+◌, ◌<◌, Bool, true, false, List, [], ◌∷◌, ◌&&◌, length, get_or, flat_map, Option, None, Some, option_map, option_and_then, refl, sym, ap, subst, ◌∙◌, bytes_eq, arith}
use Rattle.std.specs.Prelude.{◌==◌, position, slice_get, slice_index}
use Rattle.std.specs.Option.{option_map_or}
use Rattle.std.specs.List.{enumerate_from}
use Rattle.std.specs.Ordering.{nat_cmp, ordering_then}
use Rattle.std.specs.declared.cmp.Ordering.{Ordering}
use Rattle.std.specs.declared.cmp.Ordering.TheVariants.{Less}
use Rattle.std.proofs.lemmas.Bool.{eqb-true, eq-eqb}
use Rattle.std.proofs.lemmas.Bool.Decides.{nat_tests}
use Rattle.std.proofs.lemmas.Slice.Eq.{bytes_eq-Decides}
use Rattle.words.specs.Members.{In}
use Rattle.links.proofs.Members.{in_flat_map, of_flat_map}
use Rattle.records.specs.Database.{Mux, TileDb}
use Rattle.records.specs.Grid.{Tile}
use Rattle.fabric.specs.InOrder.{IsRising}
use Rattle.fabric.specs.Wires.{Wire}
use Rattle.fabric.specs.Device.{TypeDb, Device, database_at}
use Rattle.fabric.specs.Graph.{GraphMux, Graph}
use Rattle.fabric.specs.GraphOf.{number_in, muxes_of}
use Rattle.fabric.specs.Image.{mux_named}
use Rattle.fabric_laws.proofs.Graphs.{some_same}
use Rattle.fabric_laws.proofs.Members.{in_filter_map_from, in_filter_map_to}
use Rattle.fabric_laws.proofs.Numbered.{entry_to, number_there}
use Rattle.graph_lists.specs.Places.{places}
use Rattle.graph_lists.proofs.Listed.{equal_is, less_is, not_before, key_from, key_to, places_rise}
use Rattle.graph_lists.proofs.Pairs.{second_less}
use Rattle.grouped_laws.proofs.Stable.{rising_as, rising_both}
use Rattle.row_laws.proofs.MuxOrder.{made_rise}
use Rattle.mux_rows.specs.MuxTable.{MuxNumbers}
use Rattle.graph_numbers.specs.Numbers.{mux_in, tile_mux_numbers, mux_numbers}
use Rattle.bit_rows.proofs.Rising.{at_place, get_below, or_is, rising_at}
use Rattle.record_laws.specs.Records.{type_named}
use Rattle.record_laws.proofs.MuxOf.{MuxOf, Numbered}
use Rattle.record_laws.proofs.Behind.{graph_mux, in_graph, number_at, of}
use Rattle.record_laws.specs.Records.{db_of, db_at}
use Rattle.record_laws.specs.Records.{AreMuxesOf, FoundAt, HasNoneAt, IsAt, PlacesRise, place_named, place_of}
use Rattle.record_laws.proofs.Firsts.{IsFirst, first_at, first_of, none_at, none_passes}

-- by tile, then place
abbrev tile_order : MuxNumbers → MuxNumbers → Ordering
tile_order a b = ordering_then (nat_cmp a.tile b.tile) (nat_cmp a.place b.place)

less_of : (a b : ℕ) → nat_cmp a b ≡ Less → a < b
less_of a b h = grind (arith, nat_tests)

module _ (device : Device) (wires : List Wire) where
  made_at : (number place : ℕ) (o : Option ℕ) (m : MuxNumbers) → option_map (λ s. let x : MuxNumbers = record { tile = number; place = place; sink = s } in x) o ≡ Some m → (m.tile ≡ number) × (m.place ≡ place)
  made_at number place None m h = absurd (let no : ⊥ = cc in no)
  made_at number place (Some s) m h = (sym (ap (λ (x : MuxNumbers). x.tile) (some_same h)), sym (ap (λ (x : MuxNumbers). x.place) (some_same h)))

  placed : (number : ℕ) (tile : Tile) (e : ℕ × Mux) (m : MuxNumbers) → mux_in device wires number tile e.0 e.1 ≡ Some m → (m.tile ≡ number) × (m.place ≡ e.0)
  placed number tile e m h = made_at number e.0 (number_in wires device.profile.rules tile e.1.sink) m h

  of_tile : (number : ℕ) (tile : Tile) (m : MuxNumbers) → In (tile_mux_numbers device wires number tile) m → m.tile ≡ number
  of_tile number tile m i =
      let p = in_filter_map_from (λ (e : ℕ × Mux). mux_in device wires number tile e.0 e.1) (enumerate_from 0 (database_at device.types tile).muxes) m i in
      (placed number tile p.0 m p.2).0

  tile_rises : (number : ℕ) (tile : Tile) → IsRising tile_order (tile_mux_numbers device wires number tile)
  tile_rises number tile =
      rising_as (λ (a b : MuxNumbers). nat_cmp a.place b.place) tile_order (tile_mux_numbers device wires number tile)
      (λ a b i j less. ap (λ o. ordering_then o (nat_cmp a.place b.place)) (equal_is a.tile b.tile (of_tile number tile a i ∙ sym (of_tile number tile b j))) ∙ less)
      (made_rise (λ (e : ℕ × Mux). mux_in device wires number tile e.0 e.1) (λ (m : MuxNumbers). m.place) (λ e m h. (placed number tile e m h).1) 0 (database_at device.types tile).muxes)

  all_rise : (n : ℕ) (tiles : List Tile) → IsRising tile_order (flat_map (λ t. tile_mux_numbers device wires t.0 t.1) (enumerate_from n tiles))
  all_rise n [] = tt
  all_rise n (tile ∷ tiles) =
      rising_both tile_order (tile_mux_numbers device wires n tile) (flat_map (λ t. tile_mux_numbers device wires t.0 t.1) (enumerate_from (n + 1) tiles)) (tile_rises n tile) (all_rise (n + 1) tiles)
      (λ a b i j.
      let found = of_flat_map (λ (t : ℕ × Tile). tile_mux_numbers device wires t.0 t.1) (enumerate_from (n + 1) tiles) b j in
      let later = not_before tiles (n + 1) found.0.0 found.0.1 found.1.0 in
      let here = of_tile n tile a i in
      let there = of_tile found.0.0 found.0.1 b found.1.1 in
      ap (λ o. ordering_then o (nat_cmp a.place b.place)) (less_is a.tile b.tile (omega arith)))

  -- a mux with a sink that has a wire is there
  pub made_in : (number : ℕ) (tile : Tile) (place : ℕ) (mux : Mux) (s : ℕ) → slice_get device.grid.tiles number ≡ Some tile → slice_get (database_at device.types tile).muxes place ≡ Some mux
      → number_in wires device.profile.rules tile mux.sink ≡ Some s → In (mux_numbers device wires) (record { tile = number; place = place; sink = s })
  made_in number tile place mux s at there e =
      let m : MuxNumbers = record { tile = number; place = place; sink = s } in
      in_flat_map (λ (t : ℕ × Tile). tile_mux_numbers device wires t.0 t.1) (enumerate_from 0 device.grid.tiles) (number, tile) m (entry_to device.grid.tiles number tile at)
      (in_filter_map_to (λ (x : ℕ × Mux). mux_in device wires number tile x.0 x.1) (enumerate_from 0 (database_at device.types tile).muxes) (place, mux) m (entry_to (database_at device.types tile).muxes place mux there)
      (ap (option_map (λ s. let x : MuxNumbers = record { tile = number; place = place; sink = s } in x)) e))

-- the muxes of the database of a tile, where it has one
db_muxes_of : (o : Option TypeDb) (db : TileDb) → Some db ≡ option_map (λ t. t.db) o → (option_map_or (λ t. t.db) o (record { muxes = []; words = []; enums = []; fixed = [] })).muxes ≡ db.muxes
db_muxes_of None db h = absurd (let no : ⊥ = cc in no)
db_muxes_of (Some t) db h = let same : db ≡ t.db = cc in sym (ap (λ (d : TileDb). d.muxes) same)

db_muxes : (device : Device) (t : ℕ) (tile : Tile) (db : TileDb) → slice_get device.grid.tiles t ≡ Some tile → Some db ≡ db_at device t → (database_at device.types tile).muxes ≡ db.muxes
db_muxes device t tile db at h = db_muxes_of (type_named device.types tile.kind) db (h ∙ ap (option_and_then (db_of device)) at)

no_muxes_of : (o : Option TypeDb) → None ≡ option_map (λ t. t.db) o → (option_map_or (λ t. t.db) o (record { muxes = []; words = []; enums = []; fixed = [] })).muxes ≡ []
no_muxes_of None h = refl
no_muxes_of (Some t) h = absurd (let no : ⊥ = cc in no)

module _ (device : Device) (g : Graph) (muxes : List MuxNumbers) (standing : AreMuxesOf device g muxes) (t : ℕ) where
  abbrev n : Numbered
  n = record { device = device; wires = g.wires }

  abbrev row : List ℕ
  row = places (λ m. m.tile == t) muxes

  order : IsRising tile_order muxes
  order = subst (IsRising tile_order) (sym standing.muxes_are) (all_rise device g.wires 0 device.grid.tiles)

  at_row : (i : ℕ) → i < length row → (x : MuxNumbers) × ((slice_get muxes (slice_index row i) ≡ Some x) × (x.tile ≡ t))
  at_row i below = key_from (λ (m : MuxNumbers). m.tile) muxes t (slice_index row i) (at_place row i 0 below)

  -- of two muxes of one tile the first one has the lower place
  apart : (a b : ℕ) (x y : MuxNumbers) → slice_get muxes a ≡ Some x → slice_get muxes b ≡ Some y → x.tile ≡ y.tile → a < b → x.place < y.place
  apart a b x y at there same less =
      let rises = rising_at tile_order muxes a b x order less (get_below muxes b y there) in
      let both : tile_order x y ≡ Less = subst (λ z. tile_order x z ≡ Less) (or_is muxes b y x there) (subst (λ z. tile_order z (get_or muxes b x) ≡ Less) (or_is muxes a x x at) rises) in
      less_of x.place y.place (second_less (nat_cmp x.tile y.tile) (nat_cmp x.place y.place) (equal_is x.tile y.tile same) both)

  place_is : (m : ℕ) (x : MuxNumbers) → slice_get muxes m ≡ Some x → place_of muxes m ≡ x.place
  place_is m x at = ap (λ o. option_map_or (λ (z : MuxNumbers). z.place) o 0) at

  pub rise : PlacesRise muxes row
  rise i j less below =
      let x = at_row i (omega arith) in
      let y = at_row j below in
      let first = less_of (slice_index row i) (slice_index row j) (rising_at nat_cmp row i j 0 (places_rise (λ (m : MuxNumbers). m.tile == t) muxes) less below) in
      let places = apart (slice_index row i) (slice_index row j) x.0 y.0 x.1.0 y.1.0 (x.1.1 ∙ sym y.1.1) first in
      let here = place_is (slice_index row i) x.0 x.1.0 in
      let there = place_is (slice_index row j) y.0 y.1.0 in
      omega arith

  -- what a mux of the graph is that passes: one of the tile whose sink has the name
  record IsNamed (sink : List ℕ) (k : ℕ) : Type 0 where
    x : MuxNumbers
    at : slice_get muxes k ≡ Some x
    tile : x.tile ≡ t
    behind : MuxOf n x
    named : bytes_eq behind.mux.sink sink ≡ true

  both_true : (a b : Bool) → (a && b) ≡ true → (a ≡ true) × (b ≡ true)
  both_true true b h = (refl, h)
  both_true false b h = absurd (let no : ⊥ = cc in no)

  passing : (sink : List ℕ) (k : ℕ) (y : GraphMux) → slice_get g.muxes k ≡ Some y → ((y.tile == t) && bytes_eq y.mux.sink sink) ≡ true → IsNamed sink k
  passing sink k y h passes =
      let there : slice_get (muxes_of device g.wires) k ≡ Some y = ap (λ ms. slice_get ms k) (sym standing.is.muxes) ∙ h in
      let x = number_at device g standing.is muxes standing.muxes_are k y there in
      let same : graph_mux device g standing.is muxes standing.muxes_are k x.0 x.1 ≡ y = some_same (sym (in_graph device g standing.is muxes standing.muxes_are k x.0 x.1) ∙ there) in
      let two = both_true (y.tile == t) (bytes_eq y.mux.sink sink) passes in
      record {
        x = x.0;
        at = x.1;
        tile = ap (λ (z : GraphMux). z.tile) same ∙ eqb-true y.tile t two.0;
        behind = of device g standing.is muxes standing.muxes_are k x.0 x.1;
        named = ap (λ (z : GraphMux). bytes_eq z.mux.sink sink) same ∙ two.1;
      }

  -- its record stands at its place in the database of the tile
  in_db : (sink : List ℕ) (k : ℕ) (is : IsNamed sink k) (db : TileDb) → Some db ≡ db_at device t → slice_get db.muxes is.x.place ≡ Some is.behind.mux
  in_db sink k is db e = ap (λ ms. slice_get ms is.x.place) (sym (db_muxes device t is.behind.tile db (ap (slice_get device.grid.tiles) (sym is.tile) ∙ is.behind.in_tile) e)) ∙ is.behind.at_place

  module _ (sink : List ℕ) where
    abbrev passes : GraphMux → Bool
    passes m = (m.tile == t) && bytes_eq m.mux.sink sink

    abbrev named_so : Mux → Bool
    named_so m = bytes_eq m.sink sink

    none_where : ((k : ℕ) → IsNamed sink k → ⊥) → None ≡ mux_named g t sink
    none_where never = sym (none_at passes g.muxes (λ k y h p. never k (passing sink k y h p)))

    pub no_database : None ≡ db_at device t → None ≡ mux_named g t sink
    no_database e = none_where (λ k is.
        let empty = no_muxes_of (type_named device.types is.behind.tile.kind) (e ∙ ap (option_and_then (db_of device)) (ap (slice_get device.grid.tiles) (sym is.tile) ∙ is.behind.in_tile)) in
        let wrong : None ≡ Some is.behind.mux = ap (λ (ms : List Mux). slice_get ms is.x.place) (sym empty) ∙ is.behind.at_place in
        let no : ⊥ = cc in no)

    module _ (db : TileDb) (e : Some db ≡ db_at device t) where
      pub no_place : None ≡ position named_so db.muxes → None ≡ mux_named g t sink
      no_place h = none_where (λ k is. none_passes named_so db.muxes (sym h) is.x.place is.behind.mux (in_db sink k is db e) is.named)

      module _ (p : ℕ) (h : Some p ≡ position named_so db.muxes) where
        first : IsFirst named_so db.muxes p
        first = first_of named_so db.muxes p (sym h)

        -- where no mux of the tile has the place, none has the name
        pub none_there : HasNoneAt muxes row p → None ≡ mux_named g t sink
        none_there never = none_where (λ k is.
            let tile = is.behind.tile in
            let in_tile : slice_get device.grid.tiles t ≡ Some tile = ap (slice_get device.grid.tiles) (sym is.tile) ∙ is.behind.in_tile in
            let there : slice_get (database_at device.types tile).muxes p ≡ Some first.it = ap (λ ms. slice_get ms p) (db_muxes device t tile db in_tile e) ∙ first.at in
            let same : is.behind.mux.sink ≡ first.it.sink = (bytes_eq-Decides is.behind.mux.sink sink).0 is.named ∙ sym ((bytes_eq-Decides first.it.sink sink).0 first.passes) in
            let made = made_in device g.wires t tile p first.it is.x.sink in_tile there (ap (number_in g.wires device.profile.rules tile) (sym same) ∙ is.behind.sink) in
            let m : MuxNumbers = record { tile = t; place = p; sink = is.x.sink } in
            let at = number_there muxes m (subst (λ ms. In ms m) (sym standing.muxes_are) made) in
            never at.0 (key_to (λ (z : MuxNumbers). z.tile) muxes t at.0 m at.1 refl) (place_is at.0 m at.1))

        -- and the mux of the place is the first of the name
        pub found_there : (m : ℕ) → IsAt muxes row p m → Some m ≡ mux_named g t sink
        found_there m is_at =
            let x = key_from (λ (z : MuxNumbers). z.tile) muxes t m is_at.0 in
            let k = of device g standing.is muxes standing.muxes_are m x.0 x.1.0 in
            let place : x.0.place ≡ p = sym (place_is m x.0 x.1.0) ∙ is_at.1 in
            let in_tile : slice_get device.grid.tiles t ≡ Some k.tile = ap (slice_get device.grid.tiles) (sym x.1.1) ∙ k.in_tile in
            let record_there : slice_get db.muxes p ≡ Some k.mux =
            ap (λ ms. slice_get ms p) (sym (db_muxes device t k.tile db in_tile e)) ∙ (ap (slice_get (database_at device.types k.tile).muxes) (sym place) ∙ k.at_place) in
            let same : k.mux ≡ first.it = some_same (sym record_there ∙ first.at) in
            let y = graph_mux device g standing.is muxes standing.muxes_are m x.0 x.1.0 in
            let there : slice_get g.muxes m ≡ Some y = ap (λ ms. slice_get ms m) standing.is.muxes ∙ in_graph device g standing.is muxes standing.muxes_are m x.0 x.1.0 in
            let here : bytes_eq k.mux.sink sink ≡ true = ap (λ (z : Mux). bytes_eq z.sink sink) same ∙ first.passes in
            let passes_here : passes y ≡ true = ap (λ b. b && bytes_eq k.mux.sink sink) (eq-eqb x.0.tile t x.1.1) ∙ here in
            sym (first_at passes g.muxes m y there passes_here (λ i z less h q.
            let is = passing sink i z h q in
            let lower = apart i m is.x x.0 is.at x.1.0 (is.tile ∙ sym x.1.1) less in
            first.first is.x.place is.behind.mux (subst (λ k. is.x.place < k) place lower) (in_db sink i is db e) is.named))

    -- so it is found by the place of the first record of the name
    pub found_so : (o : Option ℕ) → o ≡ place_named device t sink → (r : Option ℕ) → FoundAt muxes row o r → r ≡ mux_named g t sink
    found_so o h r f = of_db (db_at device t) refl o h r f
      where
        at_place : (db : TileDb) → Some db ≡ db_at device t → (o : Option ℕ) → o ≡ position named_so db.muxes → (r : Option ℕ) → FoundAt muxes row o r → r ≡ mux_named g t sink
        at_place db e None h r f = subst (λ x. x ≡ mux_named g t sink) (sym f) (no_place db e h)
        at_place db e (Some p) h None f = none_there db e p h f
        at_place db e (Some p) h (Some m) f = found_there db e p h m f

        of_db : (d : Option TileDb) → db_at device t ≡ d → (o : Option ℕ) → o ≡ option_and_then (λ db. position named_so db.muxes) d → (r : Option ℕ) → FoundAt muxes row o r → r ≡ mux_named g t sink
        of_db None e None h r f = subst (λ x. x ≡ mux_named g t sink) (sym f) (no_database (sym e))
        of_db None e (Some p) h r f = absurd (let no : ⊥ = cc in no)
        of_db (Some db) e o h r f = at_place db (sym e) o h r f
