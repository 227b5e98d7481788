-- Types of tiles, as tiles are gone over.
use Rattle.std.proofs.Common.{◌≡◌, ◌+◌, ◌<◌, ℕ, suc, zero, Bool, true, false, List, [], ◌∷◌, ◌++◌, length, map, take, get_or, slice_get, bytes_eq, Some, None, option_and_then, refl, sym, ap, ◌∙◌, arith}
use Rattle.std.specs.Prelude.{if◌then◌else◌}
use Rattle.std.specs.Option.{is_some}
use Rattle.std.proofs.lemmas.List.{map_more, map-append, append-nil}
use Rattle.std.proofs.lemmas.Slice.Eq.{bytes_eq-Decides}
use Rattle.fabric_laws.proofs.Numbered.{at_position}
use Rattle.records.specs.Grid.{Tile}
use Rattle.fabric.specs.Device.{Device}
use Rattle.name_numbers.specs.Numbers.{number_of, with_name}
use Rattle.tile_types.specs.Types.{AreTypesOf, Types, type_in, type_of_tile, types_of, tile_of_kind}
use Rattle.tile_types.specs.Slots.{TypeSlots}

-- what is there is there in a longer list
there_longer : {X : Type 0} (xs ys : List X) (n : ℕ) (x : X) → slice_get xs n ≡ Some x → slice_get (xs ++ ys) n ≡ Some x
there_longer [] ys n x h = absurd (let no : ⊥ = cc in no)
there_longer (z ∷ zs) ys zero x h = h
there_longer (z ∷ zs) ys (suc n) x h = there_longer zs ys n x h

kept : {X T : Type 0} (f : X → T) (ts more : List T) (ns : List ℕ) (xs : List X) → map (slice_get ts) ns ≡ map (λ x. Some (f x)) xs → map (slice_get (ts ++ more)) ns ≡ map (λ x. Some (f x)) xs
kept f ts more [] xs h = h
kept f ts more (n ∷ ns) [] h = absurd (let no : ⊥ = cc in no)
kept f ts more (n ∷ ns) (x ∷ xs) h =
    let here : slice_get ts n ≡ Some (f x) = cc in
    let rest : map (slice_get ts) ns ≡ map (λ x. Some (f x)) xs = cc in
    let first = there_longer ts more n (f x) here in
    let others = kept f ts more ns xs rest in
    λ i. first i ∷ others i

get_mapped : {X Y : Type 0} (g : X → Y) (xs : List X) (n : ℕ) (x : X) → slice_get xs n ≡ Some x → slice_get (map g xs) n ≡ Some (g x)
get_mapped g [] n x h = absurd (let no : ⊥ = cc in no)
get_mapped g (z ∷ zs) zero x h = let same : z ≡ x = cc in ap (λ y. Some (g y)) same
get_mapped g (z ∷ zs) (suc n) x h = get_mapped g zs n x h

-- names with one more are names behind which more stand
longer : (kinds : List (List ℕ)) (kind : List ℕ) → (more : List (List ℕ)) × (with_name kinds kind ≡ kinds ++ more)
longer kinds kind = go (is_some (number_of kinds kind))
  where
    go : (b : Bool) → (more : List (List ℕ)) × ((if b then kinds else kinds ++ kind ∷ []) ≡ kinds ++ more)
    go true = ([], sym (append-nil kinds))
    go false = (kind ∷ [], refl)

-- the type of a tile
abbrev one_type : Device → List ℕ → TypeSlots
one_type device kind = type_in device (tile_of_kind kind)

-- a type that is new comes last
pub new_type : (device : Device) (kinds : List (List ℕ)) (tile : Tile) → number_of kinds tile.kind ≡ None
    → types_of device (with_name kinds tile.kind) ≡ types_of device kinds ++ type_in device tile ∷ []
new_type device kinds tile absent =
    ap (λ o. types_of device (if is_some o then kinds else kinds ++ tile.kind ∷ [])) absent ∙ map-append (one_type device) kinds (tile.kind ∷ [])

pub known_kind : (kinds : List (List ℕ)) (kind : List ℕ) (n : ℕ) → Some n ≡ number_of kinds kind → kinds ≡ with_name kinds kind
known_kind kinds kind n is = ap (λ o. if is_some o then kinds else kinds ++ kind ∷ []) is

-- the type of a number is that of the tile whose type has it
numbered_type : (device : Device) (kinds : List (List ℕ)) (tile : Tile) (n : ℕ) → Some n ≡ number_of kinds tile.kind → slice_get (types_of device kinds) n ≡ Some (type_in device tile)
numbered_type device kinds tile n is =
    let r = at_position (bytes_eq tile.kind) kinds n (sym is) in
    let same : tile.kind ≡ r.0 = (bytes_eq-Decides tile.kind r.0).0 r.1.1 in
    get_mapped (one_type device) kinds n tile.kind (r.1.0 ∙ ap (λ k. Some k) (sym same))

-- one tile more
pub one_tile_more : (device : Device) (tiles : List Tile) (i : ℕ) (d : Tile) (kinds : List (List ℕ)) (ns : List ℕ) (n : ℕ) → i < length tiles
    → map (slice_get (types_of device kinds)) ns ≡ map (λ tile. Some (type_in device tile)) (take i tiles)
    → Some n ≡ number_of (with_name kinds (get_or tiles i d).kind) (get_or tiles i d).kind
    → map (slice_get (types_of device (with_name kinds (get_or tiles i d).kind))) (ns ++ n ∷ []) ≡ map (λ tile. Some (type_in device tile)) (take (i + 1) tiles)
one_tile_more device tiles i d kinds ns n below so_far is =
    let tile = get_or tiles i d in
    let more = longer kinds tile.kind in
    let types = types_of device (with_name kinds tile.kind) in
    let stay : map (slice_get types) ns ≡ map (λ tile. Some (type_in device tile)) (take i tiles) =
    ap (λ ks. map (slice_get (types_of device ks)) ns) more.1
    ∙ ap (λ ts. map (slice_get ts) ns) (map-append (one_type device) kinds more.0)
    ∙ kept (type_in device) (types_of device kinds) (types_of device more.0) ns (take i tiles) so_far in
    let last = numbered_type device (with_name kinds tile.kind) tile n is in
    map-append (slice_get types) ns (n ∷ [])
    ∙ (λ j. stay j ++ last j ∷ [])
    ∙ sym (map_more (λ tile. Some (type_in device tile)) tiles i d below)

at_place : {X T : Type 0} (f : X → T) (ts : List T) (ns : List ℕ) (xs : List X) (i : ℕ) (d : X) → i < length xs
    → map (slice_get ts) ns ≡ map (λ x. Some (f x)) xs → option_and_then (slice_get ts) (slice_get ns i) ≡ Some (f (get_or xs i d))
at_place f ts ns [] i d below h = absurd (omega arith)
at_place f ts [] (x ∷ xs) i d below h = absurd (let no : ⊥ = cc in no)
at_place f ts (n ∷ ns) (x ∷ xs) zero d below h = let here : slice_get ts n ≡ Some (f x) = cc in here
at_place f ts (n ∷ ns) (x ∷ xs) (suc i) d below h =
    let rest : map (slice_get ts) ns ≡ map (λ x. Some (f x)) xs = cc in
    at_place f ts ns xs i d (omega arith) rest

-- each tile has its type
pub has_type : (device : Device) (t : Types) (i : ℕ) (d : Tile) → AreTypesOf device t → i < length device.grid.tiles
    → type_of_tile t i ≡ Some (type_in device (get_or device.grid.tiles i d))
has_type device t i d are below = at_place (type_in device) t.types t.tiles device.grid.tiles i d below are.of_tiles
