-- What a grid says that a reader takes.
use Rattle.std.proofs.Common.{◌≡◌, ℕ, Bool, true, false, inl, inr, List, [], ◌∷◌, map, filter_map, Option, Some, None, refl, sym, ap, ap₂, subst}
use Rattle.std.specs.Prelude.{Result, Ok, Err, codes, if◌then◌else◌}
use Rattle.std.specs.List.{cons_option}
use Rattle.std.specs.Result.{result_ok, result_err}
use Rattle.serde_json.specs.Data.{Data}
use Rattle.words.specs.Members.{In}
use Rattle.words.specs.Firsts.{first_fault, unless_fault}
use Rattle.records.specs.Grid.{Tile, Grid}
use Rattle.records.specs.Limits.{Place}
use Rattle.texts.specs.Names.{is_name}
use Rattle.json_forms.specs.Faults.{FormFault, NotJson, BadShape, TooLarge, top_key}
use Rattle.json_forms.specs.Options.{◌>>=◌}
use Rattle.json_forms.specs.Each.{each_or_fault}
use Rattle.json_forms.specs.Values.{Member, member_in, if_name, name_in, reading_of, object_in}
use Rattle.json_forms.specs.Places.{place_of}
use Rattle.json_forms.specs.Tiles.{tile_number_in, tile_in, place_fits, tile_of}
use Rattle.json_forms.specs.Grid.{count_fault, grid_with, grid_of_members}
use Rattle.fabric.specs.Wires.{name_cmp}
use Rattle.fabric.specs.InOrder.{IsRising}
use Rattle.fabric.specs.Graph.{Graph}
use Rattle.cells.specs.Standing.{TilesApart}
use Rattle.cells_laws.proofs.Options.{none_each}
use Rattle.formed_laws.specs.Readers.{IsReadGrid}
use Rattle.formed_laws.proofs.Results.{both, no_fault}
use Rattle.formed_laws.proofs.Twice.{one_place_of_key}
use Rattle.formed_laws.proofs.Objects.{reading_rising, rising_once}

named_so : (name n : List ℕ) (b : Bool) → (if b then Some name else None) ≡ Some n → name ≡ n
named_so name n true h = cc
named_so name n false h = absurd (let no : ⊥ = cc in no)

abbrev Number : Type 0
Number = Option ℕ

tile_of_parts : (name kind : Option (List ℕ)) (cols rows frame bit : Number) (t : Tile)
    → (name >>= λ n. kind >>= λ k. cols >>= λ c. rows >>= λ r. frame >>= λ f. bit >>= λ b.
    Some (record { name = n; kind = k; place = place_of n; cols = c; rows = r; start_frame = f; start_bit = b })) ≡ Some t
    → name ≡ Some t.name
tile_of_parts None kind cols rows frame bit t h = absurd (let no : ⊥ = cc in no)
tile_of_parts (Some n) None cols rows frame bit t h = absurd (let no : ⊥ = cc in no)
tile_of_parts (Some n) (Some k) None rows frame bit t h = absurd (let no : ⊥ = cc in no)
tile_of_parts (Some n) (Some k) (Some c) None frame bit t h = absurd (let no : ⊥ = cc in no)
tile_of_parts (Some n) (Some k) (Some c) (Some r) None bit t h = absurd (let no : ⊥ = cc in no)
tile_of_parts (Some n) (Some k) (Some c) (Some r) (Some f) None t h = absurd (let no : ⊥ = cc in no)
tile_of_parts (Some n) (Some k) (Some c) (Some r) (Some f) (Some b) t h =
    let same : record { name = n; kind = k; place = place_of n; cols = c; rows = r; start_frame = f; start_bit = b } ≡ t = cc in ap (λ (u : Tile). Some u.name) same

-- a tile has the name of its member
tile_in_named : (m : Member) (t : Tile) → tile_in m ≡ Some t → t.name ≡ m.name
unfolding tile_in
tile_in_named m t h =
    let e = tile_of_parts (if_name m.name) (member_in (codes "type") name_in m.value) (tile_number_in (codes "cols") m.value) (tile_number_in (codes "rows") m.value)
    (tile_number_in (codes "start_frame") m.value) (tile_number_in (codes "start_bit") m.value) t h in
    sym (named_so m.name t.name (is_name m.name) e)

-- the tile of a member, where it has one and its place fits
abbrev fitting : Member → Option Tile → Result Tile FormFault
fitting m None = Err (BadShape m.name)
fitting m (Some tile) = if place_fits tile.place then Ok tile else Err (TooLarge Place)

fits : (u t : Tile) (b : Bool) → (let r : Result Tile FormFault = if b then Ok u else Err (TooLarge Place) in r ≡ Ok t) → u ≡ t
fits u t true k = cc
fits u t false k = absurd (let no : ⊥ = cc in no)

fitting_named : (m : Member) (t : Tile) (o : Option Tile) → tile_in m ≡ o → fitting m o ≡ Ok t → t.name ≡ m.name
fitting_named m t None e k = absurd (let no : ⊥ = cc in no)
fitting_named m t (Some u) e k = subst (λ (v : Tile). v.name ≡ m.name) (fits u t (place_fits u.place) k) (tile_in_named m u e)

tile_named : (m : Member) (t : Tile) → tile_of m ≡ Ok t → t.name ≡ m.name
unfolding tile_of
tile_named m t h = fitting_named m t (tile_in m) refl h

-- where each member is a tile, the tiles have the names of the members
tiles_named : (ms : List Member) → ((m : Member) → In ms m → result_err (tile_of m) ≡ None)
    → map (λ t. t.name) (filter_map (λ m. result_ok (tile_of m)) ms) ≡ map (λ m. m.name) ms
tiles_named [] h = refl
tiles_named (m ∷ ms) h = go (tile_of m) refl (h m (inl refl)) (tiles_named ms (λ n i. h n (inr i)))
  where
    go : (r : Result Tile FormFault) → tile_of m ≡ r → result_err r ≡ None → map (λ t. t.name) (filter_map (λ n. result_ok (tile_of n)) ms) ≡ map (λ n. n.name) ms
        → map (λ t. t.name) (cons_option (result_ok r) (filter_map (λ n. result_ok (tile_of n)) ms)) ≡ m.name ∷ map (λ n. n.name) ms
    go (Ok t) e k ih = ap₂ (λ (x : List ℕ) xs. x ∷ xs) (tile_named m t e) ih
    go (Err f) e k ih = absurd (let no : ⊥ = cc in no)

members_named : (ms : List Member) (grid : Grid) → grid_of_members ms ≡ Ok grid → map (λ t. t.name) grid.tiles ≡ map (λ m. m.name) ms
unfolding grid_of_members
members_named ms grid h =
    let a = both (each_or_fault tile_of ms) (λ tiles. unless_fault (count_fault tiles) (grid_with tiles)) grid h in
    let b = no_fault (first_fault (λ before m. result_err (tile_of m)) ms) (filter_map (λ m. result_ok (tile_of m)) ms) a.0 a.1.0 in
    let c = no_fault (count_fault a.0) (grid_with a.0) grid a.1.1 in
    subst (λ (g : Grid). map (λ t. t.name) g.tiles ≡ map (λ m. m.name) ms) c.1
    (subst (λ tiles. map (λ t. t.name) tiles ≡ map (λ m. m.name) ms) b.1 (tiles_named ms (none_each (λ m. result_err (tile_of m)) [] ms b.0)))

-- the grid of an object, and of a reading
abbrev of_object : Option (List Member) → Result Grid FormFault
of_object None = Err (BadShape top_key)
of_object (Some ms) = grid_of_members ms

abbrev of_reading : Option Data → Result Grid FormFault
of_reading None = Err NotJson
of_reading (Some d) = of_object (object_in d)

object_in_order : (bytes : List ℕ) (d : Data) (grid : Grid) → reading_of bytes ≡ Some d → (o : Option (List Member)) → object_in d ≡ o → of_object o ≡ Ok grid
    → IsRising name_cmp (map (λ t. t.name) grid.tiles)
object_in_order bytes d grid e None f k = absurd (let no : ⊥ = cc in no)
object_in_order bytes d grid e (Some ms) f k = subst (IsRising name_cmp) (sym (members_named ms grid k)) (reading_rising bytes d e ms f)

reading_in_order : (bytes : List ℕ) (grid : Grid) (o : Option Data) → reading_of bytes ≡ o → of_reading o ≡ Ok grid → IsRising name_cmp (map (λ t. t.name) grid.tiles)
reading_in_order bytes grid None e k = absurd (let no : ⊥ = cc in no)
reading_in_order bytes grid (Some d) e k = object_in_order bytes d grid e (object_in d) refl k

-- the tiles of a grid that is read stand in byte order of their names, each name once
pub read_in_order : (grid : Grid) → IsReadGrid grid → IsRising name_cmp (map (λ t. t.name) grid.tiles)
read_in_order grid read = reading_in_order read.0 grid (reading_of read.0) refl read.1

pub read_tiles_apart : (g : Graph) → IsReadGrid g.grid → TilesApart g
read_tiles_apart g read = one_place_of_key (λ t. t.name) g.grid.tiles (rising_once (map (λ t. t.name) g.grid.tiles) (read_in_order g.grid read))
