-- What two registers take at a pin. (Our own.)
use Rattle.std.specs.Prelude.{◌≡◌, ◌↔◌, ℕ, Bool, true, false, IsTrue, Some, slice_get, if◌then◌else◌}
use Rattle.words.specs.Members.{In}
use Rattle.circuit.specs.Cells.{Input, InputWire, InputNotWire, InputZero, InputOne}
use Rattle.circuit.specs.Parts.{Source, sources}
use Rattle.circuit.specs.Pins.{Pin, input_pin, source_pins}
use Rattle.circuit.specs.Circuits.{Circuit}
use Rattle.circuit.specs.Registers.{FedAlike, TakesAlike}
use Rattle.copy_rules.specs.declared.inputs.Form.{Form}
use Rattle.copy_rules.specs.declared.inputs.Form.TheVariants.{Apart, Constant, Wires}

-- both a wire, both the opposite of one, or the same constant
abbrev pub same_form : Input → Input → Bool
same_form (InputWire a) (InputWire b) = true
same_form (InputNotWire a) (InputNotWire b) = true
same_form InputZero InputZero = true
same_form InputOne InputOne = true
same_form _ _ = false

-- a wire or the opposite of one
abbrev pub takes_wire : Input → Bool
takes_wire (InputWire a) = true
takes_wire (InputNotWire a) = true
takes_wire InputZero = false
takes_wire InputOne = false

abbrev pub form_in : Input → Input → Form
form_in x y = if same_form x y then (if takes_wire x then Wires else Constant) else Apart

-- the answer tells whether the pins with a number of two parts, which have such pins, are fed by the same triple
abbrev pub FedAlikeAt : Circuit → ℕ → ℕ → ℕ → Bool → Type 0
FedAlikeAt c j k n r = (s u : Source) (x y : Pin) → slice_get (sources c.cells) j ≡ Some s → slice_get (sources c.cells) k ≡ Some u
    → In (source_pins s) x → In (source_pins u) y → x.ref.pin ≡ n → y.ref.pin ≡ n → IsTrue r ↔ FedAlike c x y

-- a part has the pin with a number where it takes a wire there
abbrev pub HasInput : Source → ℕ → Input → Type 0
HasInput s n x = (p : Pin) → In (input_pin s.part n x) p → In (source_pins s) p

-- the answer tells whether two parts that take this at the pin with a number take it alike
abbrev pub TakenAlike : Circuit → ℕ → ℕ → ℕ → Input → Input → Bool → Type 0
TakenAlike c j k n x y r = (s u : Source) → slice_get (sources c.cells) j ≡ Some s → slice_get (sources c.cells) k ≡ Some u
    → HasInput s n x → HasInput u n y → IsTrue r ↔ TakesAlike c s.part u.part n x y
