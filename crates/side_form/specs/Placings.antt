-- The elements of the lists of a side file, each by its form. (Our own.)
use Rattle.std.specs.Prelude.{List, [], ◌∷◌, Option, Some, None, if◌then◌else◌, ◌==◌}
use Rattle.serde_json.specs.Data.{Data}
use Rattle.records.specs.Side.{Domain, D0, D1, D2, Placed, Triple, Voter}
use Rattle.json_forms.specs.Options.{◌>>=◌}
use Rattle.json_forms.specs.Values.{list_in, name_in, whole_in}
use Rattle.json_forms.specs.Parts.{pair_in, triple_in}

abbrev pub four_of : List Data → Option (Data × Data × Data × Data)
four_of (a ∷ b ∷ c ∷ d ∷ []) = Some (a, b, c, d)
four_of _ = None

-- a domain by its number
abbrev pub domain_in : Data → Option Domain
domain_in d = do
  number ← whole_in 2 d
  Some (if number == 0 then D0 else if number == 1 then D1 else D2)

-- a named cell `[NAME, TILE, KIND, DOMAIN]`
unfoldable pub placed_in : Data → Option Placed
placed_in d = do
  elements ← list_in d
  four ← four_of elements
  name ← name_in four.0
  tile ← name_in four.1
  kind ← name_in four.2
  domain ← domain_in four.3
  Some (record { name = name; tile = tile; kind = kind; domain = domain })

-- three names
unfoldable pub names_in : Data → Option Triple
names_in d = do
  three ← triple_in d
  first ← name_in three.0
  second ← name_in three.1
  third ← name_in three.2
  Some (record { first = first; second = second; third = third })

-- a voter `[SLICE, TABLE]`
unfoldable pub voter_in : Data → Option Voter
voter_in d = do
  pair ← pair_in d
  slice ← name_in pair.0
  table ← whole_in 65535 pair.1
  Some (record { slice = slice; table = table })
