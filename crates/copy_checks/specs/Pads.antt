-- The pins of output pads by name. (Our own.)
use Rattle.std.specs.Prelude.{◌≡◌, ℕ, ◌<◌, ◌≤◌, List, slice_get, Option, None, Some}
use Rattle.std.specs.BTreeMap.{BTreeMap}
use Rattle.words.specs.Members.{In}
use Rattle.circuit.specs.Cells.{PadCell, Cells}
use Rattle.circuit.specs.Parts.{output_pads}
use Rattle.circuit.specs.Pins.{Pin, pad_pin, pins}
use Rattle.part_triples.specs.Places.{place_in}
use denote.Ref.{Bor}

-- the names of cells with numbers of pins
abbrev pub PinMap : Type 0
PinMap = BTreeMap (Bor (List ℕ)) ℕ

-- the number of a pin of the cell, or none where no pin from one number up to another one is of it
abbrev pub IsPinOf : List Pin → ℕ → ℕ → List ℕ → Option ℕ → Type 0
IsPinOf all from to name None = (k : ℕ) (p : Pin) → from ≤ k → k < to → slice_get all k ≡ Some p → p.ref.part.cell ≡ name → ⊥
IsPinOf all from to name (Some k) = (from ≤ k) × ((p : Pin) × ((slice_get all k ≡ Some p) × (p.ref.part.cell ≡ name)))

-- the map has the pins from one number up to another one
abbrev pub HoldsPins : List Pin → ℕ → ℕ → PinMap → Type 0
HoldsPins all from to held = (name : List ℕ) → IsPinOf all from to name (place_in held name)

-- the number of the pin of an output pad with a name, or none where no output pad has it
abbrev pub IsPadPin : Cells → List ℕ → Option ℕ → Type 0
IsPadPin cells name None = (p : PadCell) → In (output_pads cells) p → p.name ≡ name → ⊥
IsPadPin cells name (Some k) = (p : PadCell) × (In (output_pads cells) p × ((p.name ≡ name) × (slice_get (pins cells) k ≡ Some (pad_pin p))))

-- the map has the pins of output pads
abbrev pub HoldsPads : Cells → PinMap → Type 0
HoldsPads cells held = (name : List ℕ) → IsPadPin cells name (place_in held name)
