-- What each pin is of: a part with an output, or an output pad, by its number among those. (Our own.)
use Rattle.std.specs.Prelude.{ℕ, ◌+◌, List, [], ◌∷◌, ◌++◌, length, map, replicate}
use Rattle.circuit.specs.Cells.{Cells}
use Rattle.circuit.specs.Parts.{Source, numbered, sources, output_pads}
use Rattle.circuit.specs.Pins.{Pin, pad_pin, source_pins}
use Rattle.pin_rules.specs.declared.owners.PinOwner.{PinOwner}
use Rattle.pin_rules.specs.declared.owners.PinOwner.TheVariants.{Part, Pad}

-- the owners of the pins of parts that are numbered from a number on
abbrev pub owners_from : ℕ → List Source → List PinOwner
owners_from n [] = []
owners_from n (s ∷ ss) = replicate (length (source_pins s)) (Part n) ++ owners_from (n + 1) ss

-- the owners of the pins of output pads
abbrev pub pad_owners : List Pin → List PinOwner
pad_owners pins = numbered (λ n p. Pad n) 0 pins

-- the owner of each pin, in order of pins
abbrev pub owners_of : Cells → List PinOwner
owners_of cells = owners_from 0 (sources cells) ++ pad_owners (map pad_pin (output_pads cells))
