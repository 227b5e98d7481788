-- Small forms that the parts of a JSON file have: lists of names, and lists of two or three elements.
use Rattle.std.specs.Prelude.{ℕ, List, [], ◌∷◌, Option, Some, None, option_map, length, if◌then◌else◌, ◌==◌}
use Rattle.serde_json.specs.Data.{Data}
use Rattle.serde_json.specs.Find.{as_str}
use Rattle.json_forms.specs.Options.{◌>>=◌}
use Rattle.json_forms.specs.Each.{each}
use Rattle.json_forms.specs.Values.{list_in, if_name}

-- a list whose elements all have a form
abbrev pub list_of : {Y : Type 0} → (Data → Option Y) → Data → Option (List Y)
list_of f d = list_in d >>= λ elements. each f elements

abbrev pub two_of : List Data → Option (Data × Data)
two_of (a ∷ b ∷ []) = Some (a, b)
two_of _ = None

abbrev pub three_of : List Data → Option (Data × Data × Data)
three_of (a ∷ b ∷ c ∷ []) = Some (a, b, c)
three_of _ = None

-- the elements of a list of two, and of three
abbrev pub pair_in : Data → Option (Data × Data)
pair_in d = list_in d >>= two_of

abbrev pub triple_in : Data → Option (Data × Data × Data)
triple_in d = list_in d >>= three_of

-- a name, or nothing for the empty text
abbrev pub if_name_or_empty : List ℕ → Option (Option (List ℕ))
if_name_or_empty text = if length text == 0 then Some None else option_map Some (if_name text)

abbrev pub name_or_empty_in : Data → Option (Option (List ℕ))
name_or_empty_in d = as_str d >>= if_name_or_empty
