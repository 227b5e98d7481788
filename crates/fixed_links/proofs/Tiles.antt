-- Links and cell outputs as tiles are gone over.
use Rattle.std.proofs.Common.{◌≡◌, ℕ, zero, suc, ◌+◌, ◌<◌, ◌≤◌, List, [], ◌∷◌, ◌++◌, length, drop, get_or, map, flat_map, slice_get, Option, None, Some, option_map, refl, sym, ap, subst, ◌∙◌, Bor, arith}
use Rattle.std.specs.Option.{option_map_or, IsSome, option_copied}
use Rattle.std.proofs.lemmas.List.{append_assoc, append-nil, drop_more, drop_all}
use Rattle.std.proofs.lemmas.Option.{slice_get-get_or}
use Rattle.records.specs.Grid.{Tile}
use Rattle.links.specs.Links.{Link}
use Rattle.fabric.specs.Device.{Device}
use Rattle.fabric.specs.GraphOf.{fixed_of, outputs_of}
use Rattle.tile_types.specs.Slots.{TypeSlots}
use Rattle.tile_types.specs.Types.{AreTypesOf, Types, tile_of_kind, type_in, type_of_tile}
use Rattle.tile_types.proofs.OfTiles.{has_type}
use Rattle.tile_types.proofs.Borrowed.{is_lent, what_is_lent}
use Rattle.slot_wires.specs.Numbers.{slot_numbers}
use Rattle.device_numbers.specs.Numbered.{Numbered, row_at}
use Rattle.fixed_links.specs.Slots.{TypeLinks, links_in, outputs_in, type_links}
use Rattle.fixed_links.specs.Tiles.{fixed_of_tile, fixed_from, outputs_of_tile, outputs_from, tile_fixed, tile_outputs}
use Rattle.fixed_links.proofs.Standing.{links_are, outputs_are}

module _ {X : Type 0} (f : Tile → List X) (tiles : List Tile) (all : List X) where
  abbrev at : ℕ → List X
  at i = option_map_or f (slice_get tiles i) []

  abbrev from : ℕ → List X
  from i = flat_map f (drop i tiles)

  next : (i : ℕ) → i < length tiles → from i ≡ at i ++ from (i + 1)
  next i below =
      let d = tile_of_kind [] in
      let front : drop i tiles ≡ get_or tiles i d ∷ drop (i + 1) tiles = drop_more tiles i d below in
      let there = slice_get-get_or tiles i d below in
      rw (front, there) refl

  more : (i : ℕ) (xs ys : List X) → i < length tiles → xs ++ from i ≡ all → ys ≡ xs ++ at i → ys ++ from (i + 1) ≡ all
  more i xs ys below whole is =
      ap (λ zs. zs ++ from (i + 1)) is ∙ (append_assoc xs (at i) (from (i + 1)) ∙ (ap (λ zs. xs ++ zs) (sym (next i below)) ∙ whole))

  none : (i : ℕ) (xs : List X) → length tiles ≤ i → xs ++ from i ≡ all → xs ≡ all
  none i xs over whole =
      let gone : from i ≡ [] = rw (drop_all i tiles over) refl in
      sym (append-nil xs) ∙ (ap (λ zs. xs ++ zs) (sym gone) ∙ whole)

pub one_tile_more : (n : Numbered) (i : ℕ) (links longer : List Link) → i < length n.device.grid.tiles → links ++ fixed_from n i ≡ fixed_of n.device n.wires → longer ≡ links ++ fixed_of_tile n i
    → longer ++ fixed_from n (i + 1) ≡ fixed_of n.device n.wires
one_tile_more n i links longer below whole is = more (tile_fixed n.device n.wires) n.device.grid.tiles (fixed_of n.device n.wires) i links longer below whole is

pub one_outputs_more : (n : Numbered) (i : ℕ) (outputs longer : List ℕ) → i < length n.device.grid.tiles → outputs ++ outputs_from n i ≡ outputs_of n.device n.wires → longer ≡ outputs ++ outputs_of_tile n i
    → longer ++ outputs_from n (i + 1) ≡ outputs_of n.device n.wires
one_outputs_more n i outputs longer below whole is = more (tile_outputs n.device n.wires) n.device.grid.tiles (outputs_of n.device n.wires) i outputs longer below whole is

pub none_left : (n : Numbered) (i : ℕ) (links : List Link) → length n.device.grid.tiles ≤ i → links ++ fixed_from n i ≡ fixed_of n.device n.wires → links ≡ fixed_of n.device n.wires
none_left n i links over whole = none (tile_fixed n.device n.wires) n.device.grid.tiles (fixed_of n.device n.wires) i links over whole

pub no_outputs_left : (n : Numbered) (i : ℕ) (outputs : List ℕ) → length n.device.grid.tiles ≤ i → outputs ++ outputs_from n i ≡ outputs_of n.device n.wires → outputs ≡ outputs_of n.device n.wires
no_outputs_left n i outputs over whole = none (tile_outputs n.device n.wires) n.device.grid.tiles (outputs_of n.device n.wires) i outputs over whole

-- ---- one tile

-- the type that is lent for a tile's number
pub lent_kind : (n : Numbered) (types : Types) (i : ℕ) (lent : Option (Bor TypeSlots)) → AreTypesOf n.device types → i < length n.device.grid.tiles → option_copied lent ≡ type_of_tile types i
    → option_copied lent ≡ Some (type_in n.device (get_or n.device.grid.tiles i (tile_of_kind [])))
lent_kind n types i lent are below is = is ∙ has_type n.device types i (tile_of_kind []) are below

pub kind_lent : (n : Numbered) (types : Types) (i : ℕ) (lent : Option (Bor TypeSlots)) → AreTypesOf n.device types → i < length n.device.grid.tiles → option_copied lent ≡ type_of_tile types i → IsSome lent
kind_lent n types i lent are below is = is_lent lent (type_in n.device (get_or n.device.grid.tiles i (tile_of_kind []))) (lent_kind n types i lent are below is)

pub kind_is : (n : Numbered) (types : Types) (i : ℕ) (lent : Option (Bor TypeSlots)) (kind : Bor TypeSlots) → AreTypesOf n.device types → i < length n.device.grid.tiles → option_copied lent ≡ type_of_tile types i
    → lent ≡ Some kind → Some kind.now ≡ option_map (type_in n.device) (slice_get n.device.grid.tiles i)
kind_is n types i lent kind are below is there =
    let same = what_is_lent lent kind (type_in n.device (get_or n.device.grid.tiles i (tile_of_kind []))) (lent_kind n types i lent are below is) there in
    ap (λ k. Some k) same ∙ sym (ap (option_map (type_in n.device)) (slice_get-get_or n.device.grid.tiles i (tile_of_kind []) below))

-- what the type of a tile has by slots gives what the tile has
pub tile_links : (n : Numbered) (i : ℕ) (tile : Tile) (kind : TypeLinks) → slice_get n.device.grid.tiles i ≡ Some tile → kind ≡ type_links n.device tile
    → links_in (row_at n i) kind.fixed ≡ fixed_of_tile n i
tile_links n i tile kind at is =
    ap (λ (k : TypeLinks). links_in (row_at n i) k.fixed) is
    ∙ ap (λ o. links_in (option_map_or (slot_numbers n.device n.wires) o []) (type_links n.device tile).fixed) at
    ∙ links_are n.device n.wires tile
    ∙ sym (ap (λ o. option_map_or (tile_fixed n.device n.wires) o []) at)

pub tile_outputs_are : (n : Numbered) (i : ℕ) (tile : Tile) (kind : TypeLinks) → slice_get n.device.grid.tiles i ≡ Some tile → kind ≡ type_links n.device tile
    → outputs_in (row_at n i) kind.outputs ≡ outputs_of_tile n i
tile_outputs_are n i tile kind at is =
    ap (λ (k : TypeLinks). outputs_in (row_at n i) k.outputs) is
    ∙ ap (λ o. outputs_in (option_map_or (slot_numbers n.device n.wires) o []) (type_links n.device tile).outputs) at
    ∙ outputs_are n.device n.wires tile
    ∙ sym (ap (λ o. option_map_or (tile_outputs n.device n.wires) o []) at)

-- the type that a tile's number has is that of the tile
pub kind_of_tile : (n : Numbered) (i : ℕ) (tile : Tile) (kind : TypeSlots) → slice_get n.device.grid.tiles i ≡ Some tile → Some kind ≡ option_map (type_in n.device) (slice_get n.device.grid.tiles i) → kind ≡ type_in n.device tile
kind_of_tile n i tile kind at is =
    let e : Some kind ≡ Some (type_in n.device tile) = is ∙ ap (option_map (type_in n.device)) at in
    let same : kind ≡ type_in n.device tile = cc in
    same

-- what is lent under the number of a type is what stands there
pub links_there : (links : List TypeLinks) (n : ℕ) (kind known : TypeLinks) → slice_get links n ≡ Some kind → slice_get links n ≡ Some known → kind ≡ known
links_there links n kind known at is = (let e : Some kind ≡ Some known = sym at ∙ is in let same : kind ≡ known = cc in same)

pub place_below : (links : List TypeLinks) (n : ℕ) (kind : TypeLinks) → slice_get links n ≡ Some kind → n < length links
place_below [] n kind h = absurd (let no : ⊥ = cc in no)
place_below (l ∷ ls) zero kind h = omega arith
place_below (l ∷ ls) (suc n) kind h = (let k = place_below ls n kind h in omega arith)
