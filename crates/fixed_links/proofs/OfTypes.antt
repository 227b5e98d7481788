-- What the type of a tile has by slots.
use Rattle.std.proofs.Common.{◌≡◌, ℕ, ◌+◌, ◌<◌, List, [], ◌∷◌, ◌++◌, length, map, filter, slice_get, Option, None, Some, option_map, refl, sym, ap, subst, ◌∙◌, Bor, bytes_eq, arith}
use Rattle.std.specs.Option.{option_map_or}
use Rattle.std.proofs.lemmas.List.{map-append}
use Rattle.std.proofs.lemmas.Option.{slice_get-map}
use Rattle.records.specs.Database.{Fixed, TileDb}
use Rattle.records.specs.Grid.{Tile}
use Rattle.records.specs.Profile.{Join}
use Rattle.fabric.specs.Device.{Device, TypeDb, database_at, fixed_at, output_names}
use Rattle.fabric_laws.proofs.Numbered.{at_position}
use Rattle.device_names.specs.TileNames.{joined}
use Rattle.device_names.specs.Types.{type_named}
use Rattle.name_numbers.specs.Numbers.{number_of, with_name}
use Rattle.std.specs.Option.{is_some}
use Rattle.std.specs.Prelude.{if◌then◌else◌}
use Rattle.std.proofs.lemmas.Slice.Eq.{bytes_eq-Decides}
use Rattle.tile_types.specs.Slots.{TypeSlots}
use Rattle.tile_types.specs.Types.{type_in, tile_of_kind, slot_names}
use Rattle.fixed_links.specs.Slots.{FixedSlots, TypeLinks, fixed_slots, type_links}
use Rattle.fixed_links.specs.Tiles.{links_of_types}

-- the fixed connections of a type are those of its database
of_type : (o : Option TypeDb) → option_map_or (λ d. d.fixed) (option_map (λ t. t.db) o) [] ≡ (option_map_or (λ t. t.db) o (record { muxes = []; words = []; enums = []; fixed = [] })).fixed
of_type None = refl
of_type (Some t) = refl

map_twice : {X Y Z : Type 0} (g : Y → Z) (f : X → Y) (xs : List X) → map g (map f xs) ≡ map (λ x. g (f x)) xs
map_twice g f [] = refl
map_twice g f (x ∷ xs) = ap (λ zs. g (f x) ∷ zs) (map_twice g f xs)

-- those of the database, then the joins, are those of the tile
pub fixed_made : (device : Device) (tile : Tile) (kind : TypeSlots) (slots : List FixedSlots) → kind ≡ type_in device tile
    → slots ≡ ([] ++ map (fixed_slots kind.names) (option_map_or (λ d. d.fixed) kind.db [])) ++ map (λ j. fixed_slots kind.names (joined j)) (filter (λ j. bytes_eq j.tile tile.kind) device.profile.joins)
    → slots ≡ (type_links device tile).fixed
fixed_made device tile kind slots is made =
    let names = slot_names device tile in
    let joins = filter (λ (j : Join). bytes_eq j.tile tile.kind) device.profile.joins in
    made
    ∙ ap (λ (k : TypeSlots). map (fixed_slots k.names) (option_map_or (λ d. d.fixed) k.db []) ++ map (λ j. fixed_slots k.names (joined j)) joins) is
    ∙ ap (λ (fs : List Fixed). map (fixed_slots names) fs ++ map (λ j. fixed_slots names (joined j)) joins) (of_type (type_named device.types tile.kind))
    ∙ ap (λ fs. map (fixed_slots names) (database_at device.types tile).fixed ++ fs) (sym (map_twice (fixed_slots names) joined joins))
    ∙ sym (map-append (fixed_slots names) (database_at device.types tile).fixed (map joined joins))

pub outputs_made : (device : Device) (tile : Tile) (kind : TypeSlots) (names : List (Bor (List ℕ))) (slots : List (Option ℕ)) → kind ≡ type_in device tile
    → map (λ name. name.now) names ≡ output_names device tile → slots ≡ map (λ name. number_of kind.names name.now) names → slots ≡ (type_links device tile).outputs
outputs_made device tile kind names slots is named made =
    made
    ∙ ap (λ (k : TypeSlots). map (λ name. number_of k.names name.now) names) is
    ∙ sym (map_twice (number_of (slot_names device tile)) (λ (name : Bor (List ℕ)). name.now) names)
    ∙ ap (map (number_of (slot_names device tile))) named

-- ---- types that are known

-- a type that is new comes last
pub new_type : (device : Device) (kinds : List (List ℕ)) (tile : Tile) → number_of kinds tile.kind ≡ None
    → links_of_types device (with_name kinds tile.kind) ≡ links_of_types device kinds ++ type_links device tile ∷ []
new_type device kinds tile absent =
    ap (λ o. links_of_types device (if is_some o then kinds else kinds ++ tile.kind ∷ [])) absent
    ∙ map-append (λ kind. type_links device (tile_of_kind kind)) kinds (tile.kind ∷ [])

get_mapped : {X Y : Type 0} (g : X → Y) (xs : List X) (n : ℕ) (x : X) → slice_get xs n ≡ Some x → slice_get (map g xs) n ≡ Some (g x)
get_mapped g xs n x h = slice_get-map g xs n ∙ ap (option_map g) h

-- what stands under the number of a tile's type is that of the tile
pub under_number : (device : Device) (kinds : List (List ℕ)) (tile : Tile) (n : ℕ) → number_of kinds tile.kind ≡ Some n → slice_get (links_of_types device kinds) n ≡ Some (type_links device tile)
under_number device kinds tile n is =
    let r = at_position (bytes_eq tile.kind) kinds n is in
    let same : tile.kind ≡ r.0 = (bytes_eq-Decides tile.kind r.0).0 r.1.1 in
    get_mapped (λ kind. type_links device (tile_of_kind kind)) kinds n tile.kind (r.1.0 ∙ ap (λ k. Some k) (sym same))
