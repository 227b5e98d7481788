-- The row and the muxes by slots of one tile.
use Rattle.std.proofs.Common.{◌≡◌, ℕ, ◌+◌, ◌<◌, ◌≤◌, List, [], ◌∷◌, ◌++◌, length, drop, map, get_or, Option, None, Some, option_map, option_and_then, refl, sym, ap, subst, ◌∙◌, Bor, arith}
use Rattle.std.specs.Prelude.{slice_get}
use Rattle.std.specs.Option.{option_map_or, IsSome}
use Rattle.std.proofs.lemmas.List.{length-map, length-append, append_assoc, append-nil, drop_more, drop_all}
use Rattle.std.proofs.lemmas.Option.{slice_get-map, slice_get-get_or}
use Rattle.records.specs.Grid.{Tile}
use Rattle.fabric.specs.Wires.{Wire}
use Rattle.fabric.specs.Device.{TypeDb, Device}
use Rattle.device_names.specs.Types.{type_named}
use Rattle.tile_types.specs.Slots.{TypeSlots}
use Rattle.tile_types.specs.Types.{Types, type_in, tile_of_kind, slot_names}
use Rattle.tile_types.proofs.OfTiles.{has_type}
use Rattle.slot_wires.specs.Numbers.{slot_numbers}
use Rattle.tile_parts.specs.Slots.{MuxSlots, mux_slots, muxes_in}
use Rattle.tile_parts.proofs.Standing.{muxes_are}
use Rattle.graph_numbers.specs.Numbers.{tile_mux_numbers, mux_numbers}
use Rattle.type_shapes.specs.Shapes.{type_shapes, shapes_at}
use Rattle.mux_rows.specs.MuxTable.{MuxNumbers}
use Rattle.device_numbers.specs.Numbered.{Numbered, IsNumbered, row_at, shape_in, shape_at, muxes_at, muxes_from}

-- the muxes by slots of the type of a tile are those of its database
of_type : (names : List (List ℕ)) (o : Option TypeDb) → map (mux_slots names) (option_map_or (λ db. db.muxes) (option_map (λ t. t.db) o) []) ≡ map (mux_slots names) (option_map_or (λ t. t.db) o (record { muxes = []; words = []; enums = []; fixed = [] })).muxes
of_type names None = refl
of_type names (Some t) = refl

type_shape : (device : Device) (tile : Tile) → type_shapes (type_in device tile) ≡ shape_in device tile
type_shape device tile = of_type (slot_names device tile) (type_named device.types tile.kind)

module _ (device : Device) (wires : List Wire) (types : Types) (slots : List (List (Option ℕ))) (shapes : List (List MuxSlots)) (is : IsNumbered device wires types slots shapes) (i : ℕ) (below : i < length device.grid.tiles) where
  abbrev n : Numbered
  n = record { device = device; wires = wires }

  abbrev d : Tile
  d = tile_of_kind []

  abbrev tile : Tile
  tile = get_or device.grid.tiles i d

  there : slice_get device.grid.tiles i ≡ Some tile
  there = slice_get-get_or device.grid.tiles i d below

  pub row_there : i < length slots
  row_there = subst (λ k. i < k) (sym (length-map device.grid.tiles (slot_numbers device wires)) ∙ ap (λ s. length s) (sym is.slots_are)) below

  some_one : {X : Type 0} (x y : X) → Some x ≡ Some y → x ≡ y
  some_one x y h = cc

  pub row_is : (row : List (Option ℕ)) → Some row ≡ slice_get slots i → row ≡ row_at n i
  row_is row h =
      let made : Some row ≡ Some (slot_numbers device wires tile) = h ∙ (ap (λ s. slice_get s i) is.slots_are ∙ (slice_get-map (slot_numbers device wires) device.grid.tiles i ∙ ap (option_map (slot_numbers device wires)) there)) in
      some_one row (slot_numbers device wires tile) made ∙ sym (ap (λ o. option_map_or (slot_numbers device wires) o []) there)

  shapes_of_types : (ts : List TypeSlots) (o : Option ℕ) → option_and_then (slice_get (map type_shapes ts)) o ≡ option_map type_shapes (option_and_then (slice_get ts) o)
  shapes_of_types ts None = refl
  shapes_of_types ts (Some k) = slice_get-map type_shapes ts k

  shape_made : shapes_at shapes types i ≡ Some (shape_in device tile)
  shape_made =
      ap (λ s. option_and_then (slice_get s) (slice_get types.tiles i)) is.shapes_are
      ∙ (shapes_of_types types.types (slice_get types.tiles i) ∙ (ap (option_map type_shapes) (has_type device types i d is.types_are below) ∙ ap (λ s. Some s) (type_shape device tile)))

  pub shape_there : (lent : Option (Bor (List MuxSlots))) → option_map (λ s. s.now) lent ≡ shapes_at shapes types i → IsSome lent
  shape_there None h = absurd (let no : None ≡ Some (shape_in device tile) = h ∙ shape_made in let wrong : ⊥ = cc in wrong)
  shape_there (Some s) h = refl

  pub shape_is : (lent : Option (Bor (List MuxSlots))) (s : Bor (List MuxSlots)) → option_map (λ s. s.now) lent ≡ shapes_at shapes types i → lent ≡ Some s → s.now ≡ shape_at n i
  shape_is lent s h e =
      let made : Some s.now ≡ Some (shape_in device tile) = sym (ap (option_map (λ s. s.now)) e) ∙ (h ∙ shape_made) in
      some_one s.now (shape_in device tile) made ∙ sym (ap (λ o. option_map_or (shape_in device) o []) there)

-- the muxes of a tile by its row and its muxes by slots
pub tile_muxes : (n : Numbered) (i : ℕ) → muxes_in i (row_at n i) (shape_at n i) ≡ muxes_at n i
tile_muxes n i = of_tile (slice_get n.device.grid.tiles i)
  where
    of_tile : (o : Option Tile) → muxes_in i (option_map_or (slot_numbers n.device n.wires) o []) (option_map_or (shape_in n.device) o []) ≡ option_map_or (tile_mux_numbers n.device n.wires i) o []
    of_tile None = refl
    of_tile (Some tile) = muxes_are n.device n.wires tile i

-- ---- all tiles

-- the muxes from a tile on are its own, then those from the next on
pub from_next : (n : Numbered) (i : ℕ) → i < length n.device.grid.tiles → muxes_from n i ≡ muxes_at n i ++ muxes_from n (i + 1)
from_next n i below =
    let d = tile_of_kind [] in
    let front : drop i n.device.grid.tiles ≡ get_or n.device.grid.tiles i d ∷ drop (i + 1) n.device.grid.tiles = drop_more n.device.grid.tiles i d below in
    let there = slice_get-get_or n.device.grid.tiles i d below in
    rw (front, there) refl

-- those from the first on are all
pub from_first : (n : Numbered) → muxes_from n 0 ≡ mux_numbers n.device n.wires
from_first n = refl

pub one_tile_more : (n : Numbered) (i : ℕ) (muxes more : List MuxNumbers) → i < length n.device.grid.tiles → muxes ++ muxes_from n i ≡ mux_numbers n.device n.wires → more ≡ muxes ++ muxes_at n i
    → more ++ muxes_from n (i + 1) ≡ mux_numbers n.device n.wires
one_tile_more n i muxes more below all is =
    ap (λ ms. ms ++ muxes_from n (i + 1)) is ∙ (append_assoc muxes (muxes_at n i) (muxes_from n (i + 1)) ∙ (ap (λ ms. muxes ++ ms) (sym (from_next n i below)) ∙ all))

pub none_left : (n : Numbered) (i : ℕ) (muxes : List MuxNumbers) → length n.device.grid.tiles ≤ i → muxes ++ muxes_from n i ≡ mux_numbers n.device n.wires → muxes ≡ mux_numbers n.device n.wires
none_left n i muxes over all =
    let gone : muxes_from n i ≡ [] = rw (drop_all i n.device.grid.tiles over) refl in
    sym (append-nil muxes) ∙ (ap (λ ms. muxes ++ ms) (sym gone) ∙ all)

-- too many of some tiles are too many of all
pub too_many : (n : Numbered) (i most : ℕ) (muxes : List MuxNumbers) → i < length n.device.grid.tiles → muxes ++ muxes_from n i ≡ mux_numbers n.device n.wires → most < length (muxes ++ muxes_at n i)
    → most < length (mux_numbers n.device n.wires)
too_many n i most muxes below all over =
    let whole : length ((muxes ++ muxes_at n i) ++ muxes_from n (i + 1)) ≡ length (mux_numbers n.device n.wires) = ap (λ ms. length ms) (one_tile_more n i muxes (muxes ++ muxes_at n i) below all refl) in
    let parts = length-append (muxes ++ muxes_at n i) (muxes_from n (i + 1)) in
    omega arith
