-- What a judge knows of the kinds before.
use Rattle.std.specs.Prelude.{◌≡◌, ℕ, List, Option, length, map, find}
use Rattle.std.specs.Ordering.{nat_cmp, ordering_then}
use Rattle.std.specs.Option.{option_map}
use Rattle.std.specs.BTreeSet.{BTreeSet, contains}
use Rattle.std.specs.BTreeMap.{BTreeMap, get}
use Rattle.std.specs.Cmp.Lexicographic.{slice_cmp}
use Rattle.std.specs.Set.{is_member}
use Rattle.std.specs.Str.{bytes_eq}
use Rattle.std.specs.declared.cmp.Ordering.{Ordering}
use Rattle.records.specs.Profile.{SliceKind}
use Rattle.json_forms.specs.KindRules.{KindName, same_kind}
use Rattle.cell_profile.specs.declared.known.Counts.{Counts}

-- kinds by their tile types, and then by their names
abbrev pub name_order : KindName → KindName → Ordering
name_order a b = ordering_then (slice_cmp nat_cmp a.0 b.0) (slice_cmp nat_cmp a.1 b.1)

-- the set holds just these names
abbrev pub KnowsNames : BTreeSet KindName → List KindName → Type 0
KnowsNames set names = (q : KindName) → contains name_order set q ≡ is_member same_kind names q

-- how many settings, pins of each table and registers a kind has
abbrev pub counts_of : SliceKind → Counts
counts_of kind = record { settings = length kind.settings; pins = map (λ table. length table.pins) kind.tables; registers = length kind.registers }

-- the first kind of a shape
abbrev pub first_of_shape : List SliceKind → List ℕ → Option SliceKind
first_of_shape kinds shape = find (λ kind. bytes_eq shape kind.shape) kinds

-- the map has the counts of the first kind of each shape
abbrev pub KnowsShapes : BTreeMap (List ℕ) Counts → List SliceKind → Type 0
KnowsShapes shapes kinds = (shape : List ℕ) → get (slice_cmp nat_cmp) shapes shape ≡ option_map counts_of (first_of_shape kinds shape)
