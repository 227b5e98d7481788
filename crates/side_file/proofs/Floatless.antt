-- What is printed is text, and has no floats.
use Rattle.std.proofs.Common.{◌≡◌, ℕ, List, [], ◌∷◌, map, true, false, refl, arith}
use Rattle.std.specs.Prelude.{nat_le, nat_lt}
use Rattle.std.specs.List.{list_all}
use Rattle.std.specs.Str.{IsUtf8}
use Rattle.std.proofs.lemmas.Bool.{and_parts, and_from, leb-true, lt-ltb}
use Rattle.json.proofs.Printed.Utf8.{are_ascii, IsUtf8-are_ascii}
use Rattle.serde_json.specs.Data.{Data}
use Rattle.serde_json.specs.View.{items_of}
use Rattle.serde_json.specs.Written.{has_float, items_have_float}
use Rattle.records.specs.Side.{Placed, Triple, Voter, Side}
use Rattle.texts.specs.Names.{is_name_byte, is_name}
use Rattle.side_form.specs.SidePrint.{list_value, placed_value, triple_value, voter_value, side_value}

-- ---- names

bytes_are_ascii : (bytes : List ℕ) → list_all is_name_byte bytes ≡ true → are_ascii bytes ≡ true
bytes_are_ascii [] h = refl
bytes_are_ascii (b ∷ bs) h =
    let parts = and_parts (is_name_byte b) (list_all is_name_byte bs) h in
    let high = leb-true b 0x7E (and_parts (nat_le 0x21 b) (nat_le b 0x7E) parts.0).1 in
    and_from (nat_lt b 128) (are_ascii bs) (lt-ltb b 128 (omega arith)) (bytes_are_ascii bs parts.1)

-- a name is text
pub name_is_text : (name : List ℕ) → is_name name ≡ true → IsUtf8 name
name_is_text name h = IsUtf8-are_ascii name (bytes_are_ascii name (and_parts _ (list_all is_name_byte name) h).1)

-- ---- no floats

list_floatless : {X : Type 0} (value : X → Data) → ((x : X) → has_float (value x) ≡ false) → (xs : List X) → items_have_float (items_of (map value xs)) ≡ false
list_floatless value none [] = refl
list_floatless value none (x ∷ xs) = rw (none x) (list_floatless value none xs)

cells_floatless : (cells : List Placed) → has_float (list_value (map placed_value cells)) ≡ false
cells_floatless cells = list_floatless placed_value (λ p. refl) cells

triples_floatless : (triples : List Triple) → has_float (list_value (map triple_value triples)) ≡ false
triples_floatless triples = list_floatless triple_value (λ t. refl) triples

voters_floatless : (voters : List Voter) → has_float (list_value (map voter_value voters)) ≡ false
voters_floatless voters = list_floatless voter_value (λ v. refl) voters

pub side_floatless : (side : Side) → has_float (side_value side) ≡ false
side_floatless side =
    rw (triples_floatless side.clocks, triples_floatless side.inputs, triples_floatless side.outputs, cells_floatless side.pads, cells_floatless side.slices, triples_floatless side.triples, voters_floatless side.voters) refl
