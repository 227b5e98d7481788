-- Parts as those of their triples in domain 0, in order, each once. (Our own.)
use Rattle.std.specs.Prelude.{ℕ, List, [], fold, slice_get, Option, None, Some, option_and_then}
use Rattle.std.specs.Option.{option_map}
use Rattle.records.specs.Side.{Side}
use Rattle.circuit.specs.Parts.{PartRef, Source}
use Rattle.circuit.specs.Triples.{triple_of}
use Rattle.attempts.specs.PinOrder.{part_cmp}
use Rattle.design_checks.specs.CopyChecks.{first_part}
use Rattle.fabric_laws.specs.Insertion.{inserted}

-- the part with a number, as that of its triple in domain 0
abbrev pub first_at : Side → List Source → ℕ → Option PartRef
first_at side all k = option_map (λ s. first_part (triple_of side s.part)) (slice_get all k)

-- the part that feeds a pin, so
abbrev pub first_of : Side → List Source → Option ℕ → Option PartRef
first_of side all feed = option_and_then (first_at side all) feed

-- parts in order with another one put in, if there is one
abbrev pub with_first : List PartRef → Option PartRef → List PartRef
with_first parts None = parts
with_first parts (Some p) = inserted part_cmp p parts

-- those that feed a table put in
abbrev pub gathered : Side → List Source → List PartRef → List (Option ℕ) → List PartRef
gathered side all parts row = fold (λ list feed. with_first list (first_of side all feed)) parts row

-- those that feed one of three tables
abbrev pub all_gathered : Side → List Source → List (Option ℕ) → List (Option ℕ) → List (Option ℕ) → List PartRef
all_gathered side all first second third = gathered side all (gathered side all (gathered side all [] first) second) third
