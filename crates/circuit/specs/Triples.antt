-- The triples of a side file: three cells, one of each domain, that are copies of each other. (Our own.)
use Rattle.std.specs.Prelude.{ℕ, Bool, List, [], ◌∷◌, ◌++◌, map, find, unwrap_or, bytes_eq}
use Rattle.std.specs.List.{list_any}
use Rattle.words.specs.Members.{In}
use Rattle.records.specs.Side.{Domain, Triple, Side}
use Rattle.circuit.specs.Cells.{Cells}
use Rattle.circuit.specs.Parts.{PartKind, PartRef}

abbrev pub names_of : Triple → List (List ℕ)
names_of t = t.first ∷ t.second ∷ t.third ∷ []

-- a name is one of the three
abbrev pub IsEntry : Triple → List ℕ → Type 0
IsEntry t name = In (names_of t) name

abbrev pub is_entry : List ℕ → Triple → Bool
is_entry name t = list_any (bytes_eq name) (names_of t)

-- of slices, inputs, outputs and clocks
abbrev pub all_triples : Side → List Triple
all_triples side = side.triples ++ side.inputs ++ side.outputs ++ side.clocks

-- The triple in which a name stands. (A name that stands in none has one of its own, with no copies.)
abbrev pub triple_with : Side → List ℕ → Triple
triple_with side name = unwrap_or (find (is_entry name) (all_triples side)) (record { first = name; second = name; third = name })

-- three parts that are copies: the part of this kind and number in each cell of a triple
pub record PartTriple : Type 0 where
  pub cells : Triple
  pub part : PartKind

-- the triple of a part
abbrev pub triple_of : Side → PartRef → PartTriple
triple_of side p = record { cells = triple_with side p.cell; part = p.part }

-- a name and the domain of its cell
pub record Member : Type 0 where
  pub name : List ℕ
  pub domain : Domain

abbrev pub members : Cells → List Member
members cells = map (λ s. record { name = s.name; domain = s.domain }) cells.slices ++ map (λ p. record { name = p.name; domain = p.domain }) cells.pads

-- a cell with this name lies in this domain
abbrev pub LiesIn : Cells → List ℕ → Domain → Type 0
LiesIn cells name domain = In (members cells) (record { name = name; domain = domain })
