-- What feeds the pins of parts, by numbers. (Our own.)
use Rattle.std.specs.Prelude.{◌≡◌, ◌↔◌, ℕ, List, slice_get, Option, None, Some, option_and_then}
use Rattle.words.specs.Members.{In}
use Rattle.records.specs.Side.{Side}
use Rattle.circuit.specs.Parts.{Source, sources}
use Rattle.circuit.specs.Pins.{Pin, source_pins}
use Rattle.circuit.specs.Circuits.{Circuit, Connects}
use Rattle.pin_feeds.specs.Told.{Tells}
use Rattle.part_triples.specs.Numbers.{AreCopies}

-- the parts with two numbers, which may be none, are there and have one triple
abbrev pub SameFeeds : Side → List Source → Option ℕ → Option ℕ → Type 0
SameFeeds side all None b = ⊥
SameFeeds side all (Some a) None = ⊥
SameFeeds side all (Some a) (Some b) = AreCopies side all a b

-- the place in a row of a pin with a number, or none where no pin has it
abbrev pub IsNumbered : List Pin → ℕ → Option ℕ → Type 0
IsNumbered row n None = (k : ℕ) (p : Pin) → slice_get row k ≡ Some p → p.ref.pin ≡ n → ⊥
IsNumbered row n (Some i) = (p : Pin) × ((slice_get row i ≡ Some p) × (p.ref.pin ≡ n))

-- what feeds the pin of a part with a number, where the part has one
abbrev pub IsFeedOf : Circuit → List (Option ℕ) → ℕ → ℕ → Option ℕ → Type 0
IsFeedOf c feeds k n r = Tells c feeds → (s : Source) (p : Pin) → slice_get (sources c.cells) k ≡ Some s → In (source_pins s) p → p.ref.pin ≡ n
    → (a : Source) → Connects c a p ↔ (option_and_then (slice_get (sources c.cells)) r ≡ Some a)
