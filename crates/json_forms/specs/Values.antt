-- What a JSON file holds, as `serde_json` reads it, in lists of elements and members.
use Rattle.std.specs.Prelude.{ℕ, List, [], ◌∷◌, Option, Some, None, option_map, option_and_then, nat_le, if◌then◌else◌}
use Rattle.std.specs.Str.{is_utf8}
use Rattle.serde_json.specs.Data.{Data, Items, no_items, item, Members, no_members, member}
use Rattle.serde_json.specs.Read.{read}
use Rattle.serde_json.specs.Find.{get, as_number, as_u64, as_str, as_array, as_object}
use Rattle.texts.specs.Names.{is_name}

-- The value that bytes are read as: they are UTF-8, and `serde_json` has a reading of them. In an object each
-- name stands once, with its last value, and the members are in byte order of their names.
unfoldable pub reading_of : List ℕ → Option Data
reading_of bytes = if is_utf8 bytes then read bytes else None

-- a member of an object
pub record Member : Type 0 where
  pub name : List ℕ
  pub value : Data

abbrev pub elements : Items → List Data
elements no_items = []
elements (item d ds) = d ∷ elements ds

abbrev pub members : Members → List Member
members no_members = []
members (member name value ms) = record { name = name; value = value } ∷ members ms

-- the members of a value that is an object
abbrev pub object_in : Data → Option (List Member)
object_in d = option_map members (as_object d)

-- the elements of a value that is a list
abbrev pub list_in : Data → Option (List Data)
list_in d = option_map elements (as_array d)

-- the text, where it is a name
abbrev pub if_name : List ℕ → Option (List ℕ)
if_name text = if is_name text then Some text else None

-- the name that a value is
abbrev pub name_in : Data → Option (List ℕ)
name_in d = option_and_then if_name (as_str d)

-- The whole number from 0 up to a greatest one that a value is. A number is whole where `serde_json` gives it as
-- one of 64 bits.
abbrev pub whole_in : ℕ → Data → Option ℕ
whole_in most d = option_and_then (λ n. if nat_le n most then Some n else None) (option_and_then as_u64 (as_number d))

-- what the member of a name in an object stands for
abbrev pub member_in : {Y : Type 0} → List ℕ → (Data → Option Y) → Data → Option Y
member_in name f d = option_and_then f (get name d)
