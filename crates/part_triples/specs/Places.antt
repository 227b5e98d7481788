-- Names with the place of the first triple in which they stand. (Our own.)
use Rattle.std.specs.Prelude.{◌≡◌, ℕ, Bool, true, false, List, position, Option, None, Some}
use Rattle.std.specs.Ordering.{nat_cmp}
use Rattle.std.specs.BTreeMap.{BTreeMap, get_by}
use Rattle.std.specs.Cmp.Lexicographic.{slice_cmp}
use Rattle.records.specs.Side.{Triple}
use Rattle.circuit.specs.Triples.{is_entry}
use denote.Ref.{Bor}

-- what a map has for a name
abbrev pub place_in : BTreeMap (Bor (List ℕ)) ℕ → List ℕ → Option ℕ
place_in places name = get_by (λ k. slice_cmp nat_cmp name k.now) places

-- the first place, or where there is none, another one if a test is passed
abbrev pub or_place : Option ℕ → Bool → ℕ → Option ℕ
or_place (Some i) passed place = Some i
or_place None true place = Some place
or_place None false place = None

-- the names that pass a test and had no place have this one
abbrev pub AddsPlace : (List ℕ → Bool) → ℕ → BTreeMap (Bor (List ℕ)) ℕ → BTreeMap (Bor (List ℕ)) ℕ → Type 0
AddsPlace test place old new = (q : List ℕ) → place_in new q ≡ or_place (place_in old q) (test q) place

-- the map has for each name the place of the first triple in which it stands
abbrev pub HoldsPlaces : List Triple → BTreeMap (Bor (List ℕ)) ℕ → Type 0
HoldsPlaces triples places = (q : List ℕ) → place_in places q ≡ position (is_entry q) triples
