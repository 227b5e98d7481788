-- The text of a side file: compact JSON of its seven lists, in byte order of their names, and one line feed. (Our
-- own.)
use Rattle.std.specs.Prelude.{ℕ, List, [], ◌∷◌, ◌++◌, map, codes}
use Rattle.serde_json.specs.Data.{Data, number, unsigned, string, array, object, no_members, member}
use Rattle.serde_json.specs.View.{items_of}
use Rattle.serde_json.specs.Written.{compact_text}
use Rattle.records.specs.Side.{Domain, D0, D1, D2, Placed, Triple, Voter, Side}

-- a list of values
abbrev pub list_value : List Data → Data
list_value values = array (items_of values)

abbrev pub whole_value : ℕ → Data
whole_value n = number (unsigned n)

abbrev pub domain_number : Domain → ℕ
domain_number D0 = 0
domain_number D1 = 1
domain_number D2 = 2

-- a named cell `[NAME, TILE, KIND, DOMAIN]`
abbrev pub placed_value : Placed → Data
placed_value p = list_value (string p.name ∷ string p.tile ∷ string p.kind ∷ whole_value (domain_number p.domain) ∷ [])

-- three names
abbrev pub triple_value : Triple → Data
triple_value t = list_value (string t.first ∷ string t.second ∷ string t.third ∷ [])

-- a voter `[SLICE, TABLE]`
abbrev pub voter_value : Voter → Data
voter_value v = list_value (string v.slice ∷ whole_value v.table ∷ [])

-- The object of a side file, whose lists are in input order.
abbrev pub side_value : Side → Data
side_value side = object (
    member (codes "clocks") (list_value (map triple_value side.clocks))
    (member (codes "inputs") (list_value (map triple_value side.inputs))
    (member (codes "outputs") (list_value (map triple_value side.outputs))
    (member (codes "pads") (list_value (map placed_value side.pads))
    (member (codes "slices") (list_value (map placed_value side.slices))
    (member (codes "triples") (list_value (map triple_value side.triples))
    (member (codes "voters") (list_value (map voter_value side.voters)) no_members)))))))

-- the text of a side file
abbrev pub side_text : Side → List ℕ
side_text side = compact_text (side_value side) ++ codes "\n"
