-- The tiles of a grid that is read have names, and are few; the kinds of slices of a profile that is read have names.
use Rattle.std.proofs.Common.{◌≡◌, ◌≤◌, ℕ, Bool, true, false, List, filter_map, length, Option, Some, None, refl, sym, ap, subst}
use Rattle.std.specs.Prelude.{Result, Ok, Err, codes, nat_lt, if◌then◌else◌}
use Rattle.std.specs.Result.{result_ok, result_err}
use Rattle.std.proofs.lemmas.Bool.{ltb-false}
use Rattle.serde_json.specs.Data.{Data}
use Rattle.serde_json.specs.Find.{get, as_str}
use Rattle.words.specs.Members.{In}
use Rattle.words.specs.Firsts.{first_fault, unless_fault}
use Rattle.texts.specs.Names.{is_name}
use Rattle.records.specs.Limits.{Place, Tiles, Types, most_tiles, most_types}
use Rattle.records.specs.Grid.{Tile, Grid}
use Rattle.records.specs.Profile.{Require, TableKind, RegisterKind, SliceKind}
use Rattle.json_forms.specs.Faults.{FormFault, NotJson, BadShape, TooLarge, top_key}
use Rattle.json_forms.specs.Options.{◌>>=◌}
use Rattle.json_forms.specs.Each.{each_or_fault}
use Rattle.json_forms.specs.Values.{Member, member_in, if_name, name_in, reading_of, object_in}
use Rattle.json_forms.specs.Parts.{list_of}
use Rattle.json_forms.specs.Places.{place_of}
use Rattle.json_forms.specs.Tiles.{tile_number_in, tile_in, place_fits, tile_of}
use Rattle.json_forms.specs.Grid.{type_count, count_fault, grid_with, grid_of_members}
use Rattle.json_forms.specs.Kinds.{require_in, table_in, register_in, slice_in}
use Rattle.fabric_laws.proofs.Members.{in_filter_map_from}
use Rattle.cells_laws.proofs.Options.{then_from}
use Rattle.formed_laws.specs.Readers.{IsReadGrid}
use Rattle.formed_laws.proofs.Results.{both, no_fault}

name_is : (text name : List ℕ) → if_name text ≡ Some name → is_name name ≡ true
name_is text name h = go (is_name text) refl h
  where
    go : (b : Bool) → is_name text ≡ b → (if b then Some text else None) ≡ Some name → is_name name ≡ true
    go true e k = let same : text ≡ name = cc in subst (λ n. is_name n ≡ true) same e
    go false e k = absurd (let no : ⊥ = cc in no)

-- ---- tiles

tile_of_parts : (name kind : Option (List ℕ)) (cols rows frame bit : Option ℕ) (t : Tile)
    → (name >>= λ n. kind >>= λ k. cols >>= λ c. rows >>= λ r. frame >>= λ f. bit >>= λ b.
    Some (record { name = n; kind = k; place = place_of n; cols = c; rows = r; start_frame = f; start_bit = b })) ≡ Some t
    → name ≡ Some t.name
tile_of_parts None kind cols rows frame bit t h = absurd (let no : ⊥ = cc in no)
tile_of_parts (Some n) None cols rows frame bit t h = absurd (let no : ⊥ = cc in no)
tile_of_parts (Some n) (Some k) None rows frame bit t h = absurd (let no : ⊥ = cc in no)
tile_of_parts (Some n) (Some k) (Some c) None frame bit t h = absurd (let no : ⊥ = cc in no)
tile_of_parts (Some n) (Some k) (Some c) (Some r) None bit t h = absurd (let no : ⊥ = cc in no)
tile_of_parts (Some n) (Some k) (Some c) (Some r) (Some f) None t h = absurd (let no : ⊥ = cc in no)
tile_of_parts (Some n) (Some k) (Some c) (Some r) (Some f) (Some b) t h =
    let same : record { name = n; kind = k; place = place_of n; cols = c; rows = r; start_frame = f; start_bit = b } ≡ t = cc in ap (λ (u : Tile). Some u.name) same

tile_in_named : (m : Member) (t : Tile) → tile_in m ≡ Some t → is_name t.name ≡ true
unfolding tile_in
tile_in_named m t h =
    name_is m.name t.name (tile_of_parts (if_name m.name) (member_in (codes "type") name_in m.value) (tile_number_in (codes "cols") m.value) (tile_number_in (codes "rows") m.value)
    (tile_number_in (codes "start_frame") m.value) (tile_number_in (codes "start_bit") m.value) t h)

abbrev fitting : Member → Option Tile → Result Tile FormFault
fitting m None = Err (BadShape m.name)
fitting m (Some tile) = if place_fits tile.place then Ok tile else Err (TooLarge Place)

fits : (u t : Tile) (b : Bool) → (let r : Result Tile FormFault = if b then Ok u else Err (TooLarge Place) in r ≡ Ok t) → u ≡ t
fits u t true k = cc
fits u t false k = absurd (let no : ⊥ = cc in no)

fitting_named : (m : Member) (t : Tile) (o : Option Tile) → tile_in m ≡ o → fitting m o ≡ Ok t → is_name t.name ≡ true
fitting_named m t None e k = absurd (let no : ⊥ = cc in no)
fitting_named m t (Some u) e k = subst (λ (v : Tile). is_name v.name ≡ true) (fits u t (place_fits u.place) k) (tile_in_named m u e)

tile_named : (m : Member) (t : Tile) → tile_of m ≡ Ok t → is_name t.name ≡ true
unfolding tile_of
tile_named m t h = fitting_named m t (tile_in m) refl h

was_ok : (r : Result Tile FormFault) (t : Tile) → result_ok r ≡ Some t → r ≡ Ok t
was_ok (Ok u) t h = (let same : u ≡ t = cc in ap (λ z. Ok z) same)
was_ok (Err f) t h = absurd (let no : ⊥ = cc in no)

-- ---- grids

few_by : (tiles : List Tile) (b c : Bool) → nat_lt most_tiles (length tiles) ≡ b → (if b then Some (TooLarge Tiles) else if c then Some (TooLarge Types) else None) ≡ None → length tiles ≤ most_tiles
few_by tiles true c e h = absurd (let no : ⊥ = cc in no)
few_by tiles false c e h = ltb-false most_tiles (length tiles) e

record GridNames (grid : Grid) : Type 0 where
  named : (t : Tile) → In grid.tiles t → is_name t.name ≡ true
  few : length grid.tiles ≤ most_tiles

of_members : (ms : List Member) (grid : Grid) → grid_of_members ms ≡ Ok grid → GridNames grid
unfolding grid_of_members
of_members ms grid h =
    let a = both (each_or_fault tile_of ms) (λ tiles. unless_fault (count_fault tiles) (grid_with tiles)) grid h in
    let b = no_fault (first_fault (λ before m. result_err (tile_of m)) ms) (filter_map (λ m. result_ok (tile_of m)) ms) a.0 a.1.0 in
    let c = no_fault (count_fault a.0) (grid_with a.0) grid a.1.1 in
    subst GridNames c.1 (record {
      named = λ t i. (let r = in_filter_map_from (λ m. result_ok (tile_of m)) ms t (subst (λ ts. In ts t) (sym b.1) i) in tile_named r.0 t (was_ok (tile_of r.0) t r.2));
      few = few_by a.0 (nat_lt most_tiles (length a.0)) (nat_lt most_types (type_count a.0)) refl c.0;
    })

abbrev of_object : Option (List Member) → Result Grid FormFault
of_object None = Err (BadShape top_key)
of_object (Some ms) = grid_of_members ms

abbrev of_reading : Option Data → Result Grid FormFault
of_reading None = Err NotJson
of_reading (Some d) = of_object (object_in d)

object_names : (grid : Grid) (o : Option (List Member)) → of_object o ≡ Ok grid → GridNames grid
object_names grid None k = absurd (let no : ⊥ = cc in no)
object_names grid (Some ms) k = of_members ms grid k

reading_names : (grid : Grid) (o : Option Data) → of_reading o ≡ Ok grid → GridNames grid
reading_names grid None k = absurd (let no : ⊥ = cc in no)
reading_names grid (Some d) k = object_names grid (object_in d) k

grid_names : (grid : Grid) → IsReadGrid grid → GridNames grid
grid_names grid read = reading_names grid (reading_of read.0) read.1

pub tiles_named : (grid : Grid) → IsReadGrid grid → (t : Tile) → In grid.tiles t → is_name t.name ≡ true
tiles_named grid read = (grid_names grid read).named

pub few_tiles : (grid : Grid) → IsReadGrid grid → length grid.tiles ≤ most_tiles
few_tiles grid read = (grid_names grid read).few

-- ---- kinds of slices

abbrev Text : Type 0
Text = Option (List ℕ)

slice_of_parts : (tile name shape : Text) (settings : Option (List (List ℕ))) (require : Option (List Require)) (tables : Option (List TableKind)) (registers : Option (List RegisterKind)) (k : SliceKind)
    → (tile >>= λ t. name >>= λ n. shape >>= λ s. settings >>= λ ss. require >>= λ rs. tables >>= λ ts. registers >>= λ gs.
    Some (record { tile = t; name = n; shape = s; settings = ss; require = rs; tables = ts; registers = gs })) ≡ Some k
    → name ≡ Some k.name
slice_of_parts None name shape settings require tables registers k h = absurd (let no : ⊥ = cc in no)
slice_of_parts (Some t) None shape settings require tables registers k h = absurd (let no : ⊥ = cc in no)
slice_of_parts (Some t) (Some n) None settings require tables registers k h = absurd (let no : ⊥ = cc in no)
slice_of_parts (Some t) (Some n) (Some s) None require tables registers k h = absurd (let no : ⊥ = cc in no)
slice_of_parts (Some t) (Some n) (Some s) (Some ss) None tables registers k h = absurd (let no : ⊥ = cc in no)
slice_of_parts (Some t) (Some n) (Some s) (Some ss) (Some rs) None registers k h = absurd (let no : ⊥ = cc in no)
slice_of_parts (Some t) (Some n) (Some s) (Some ss) (Some rs) (Some ts) None k h = absurd (let no : ⊥ = cc in no)
slice_of_parts (Some t) (Some n) (Some s) (Some ss) (Some rs) (Some ts) (Some gs) k h =
    let same : record { tile = t; name = n; shape = s; settings = ss; require = rs; tables = ts; registers = gs } ≡ k = cc in ap (λ (j : SliceKind). Some j.name) same

named_in : (key : List ℕ) (d : Data) (name : List ℕ) → member_in key name_in d ≡ Some name → is_name name ≡ true
named_in key d name h =
    let m = then_from name_in (get key d) name h in
    let t = then_from if_name (as_str m.0) name m.1.1 in
    name_is t.0 name t.1.1

pub slice_named : (d : Data) (k : SliceKind) → slice_in d ≡ Some k → is_name k.name ≡ true
unfolding slice_in
slice_named d k h =
    named_in (codes "name") d k.name
    (slice_of_parts (member_in (codes "tile") name_in d) (member_in (codes "name") name_in d) (member_in (codes "shape") name_in d) (member_in (codes "settings") (list_of name_in) d)
    (member_in (codes "require") (list_of require_in) d) (member_in (codes "tables") (list_of table_in) d) (member_in (codes "registers") (list_of register_in) d) k h)
