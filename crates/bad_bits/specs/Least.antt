-- The least of those with a property, as it is looked for. (Our own.)
use Rattle.std.specs.Prelude.{◌≡◌, ℕ, ◌&&◌, Bool, false, List, Option, None, Some, get_or, if◌then◌else◌}
use Rattle.std.specs.List.{list_any}
use Rattle.std.specs.declared.cmp.Ordering.{Ordering}
use Rattle.std.specs.Ordering.{is_gt}
use Rattle.words.specs.Members.{In}
use Rattle.patterns.specs.Bits.{Bits}
use Rattle.records.specs.Side.{Domain}
use Rattle.fabric.specs.Wires.{name_cmp}
use Rattle.circuit.specs.Cells.{SliceCell, PadCell, Cells}
use Rattle.circuit.specs.Triples.{LiesIn}
use Rattle.upset.specs.Effect.{touched_names}
use Rattle.side_form.specs.Side.{same_domain}
use Rattle.design_checks.specs.Checks.{IsLeast}
use Rattle.domain_map.specs.Labels.{WireLabels}

-- the least of those with a property, or none where none has it
abbrev pub LeastOrNone : {X : Type 0} → (X → X → Ordering) → (X → Type 0) → Option X → Type 0
LeastOrNone {X} cmp Has None = (x : X) → Has x → ⊥
LeastOrNone cmp Has (Some x) = IsLeast cmp Has x

-- the lesser of two names that may be there
abbrev pub lesser_of : Option (List ℕ) → Option (List ℕ) → Option (List ℕ)
lesser_of None b = b
lesser_of (Some x) None = Some x
lesser_of (Some x) (Some y) = if is_gt (name_cmp x y) then Some y else Some x

-- a name of an element of a list, of those that have one
abbrev pub NamesOf : {X : Type 0} → (X → Option (List ℕ)) → List X → List ℕ → Type 0
NamesOf {X} named xs name = (x : X) × (In xs x × (named x ≡ Some name))

-- the name of a cell of a domain with a setting that names a bit that flips
abbrev pub slice_name : Bits → Domain → SliceCell → Option (List ℕ)
slice_name flips d s = if same_domain d s.domain && list_any flips s.bits then Some s.name else None

abbrev pub pad_name : Bits → Domain → PadCell → Option (List ℕ)
pad_name flips d p = if same_domain d p.domain && list_any flips p.bits then Some p.name else None

-- the name of a touched cell of a domain
abbrev pub TouchedOf : Cells → Bits → Domain → List ℕ → Type 0
TouchedOf cells flips d name = In (touched_names cells flips) name × LiesIn cells name d

-- whether a domain is the one that may be there
abbrev pub is_that : Domain → Option Domain → Bool
is_that d None = false
is_that d (Some e) = same_domain d e

-- whether a wire has a domain, by its label
abbrev pub has_label : WireLabels → Domain → ℕ → Bool
has_label labels d w = is_that d (get_or labels.domains w None)
