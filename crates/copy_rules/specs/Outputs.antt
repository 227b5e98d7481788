-- The output pads of a triple by the numbers of their pins. (Our own.)
use Rattle.std.specs.Prelude.{◌≡◌, ℕ, ◌<◌, List, length, get_or, slice_get, Some}
use Rattle.words.specs.Members.{In}
use Rattle.records.specs.Side.{Triple}
use Rattle.circuit.specs.Cells.{PadCell}
use Rattle.circuit.specs.Parts.{output_pads}
use Rattle.circuit.specs.Pins.{Pin, pad_pin, pins}
use Rattle.circuit.specs.Triples.{IsEntry}
use Rattle.circuit.specs.Circuits.{Circuit}
use Rattle.circuit.specs.Registers.{FedAlike}

-- the pins with two numbers are there and aren't fed by the same triple
pub record FedUnlike (c : Circuit) (i j : ℕ) : Type 0 where
  pub first : Pin
  pub second : Pin
  pub first_at : slice_get (pins c.cells) i ≡ Some first
  pub second_at : slice_get (pins c.cells) j ≡ Some second
  pub differs : FedAlike c first second → ⊥

-- one of the pins isn't fed by the same triple as the pin with a number
abbrev pub UnlikeFrom : Circuit → List ℕ → ℕ → Type 0
UnlikeFrom c listed p = (i : ℕ) × ((i < length listed) × FedUnlike c p (get_or listed i 0))

-- two of the pins aren't
abbrev pub SomeUnlike : Circuit → List ℕ → Type 0
SomeUnlike c listed = (i : ℕ) × ((i < length listed) × UnlikeFrom c listed (get_or listed i 0))

-- the pin with a number is that of an output pad of a triple
abbrev pub IsOutputPin : Circuit → Triple → ℕ → PadCell → Type 0
IsOutputPin c t k p = In (output_pads c.cells) p × IsEntry t p.name × (slice_get (pins c.cells) k ≡ Some (pad_pin p))

-- the list has the numbers of the pins of the output pads of a triple
pub record AreOutputPins (c : Circuit) (t : Triple) (listed : List ℕ) : Type 0 where
  pub each : (i : ℕ) → i < length listed → (p : PadCell) × IsOutputPin c t (get_or listed i 0) p
  pub all : (p : PadCell) → In (output_pads c.cells) p → IsEntry t p.name → (i : ℕ) × ((i < length listed) × (slice_get (pins c.cells) (get_or listed i 0) ≡ Some (pad_pin p)))
