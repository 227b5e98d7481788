-- Names of wires under numbers: a list of wires in order of first use, in which a wire's number is its place.
-- (Our own.)
use Rattle.std.specs.Prelude.{◌<◌, ◌≤◌, ℕ, List, [], ◌∷◌, ◌++◌, length, Option, None}
use Rattle.fabric.specs.Wires.{Wire, Local, Wide}
use Rattle.fabric.specs.WireNames.{WireName, Named, Ignored}
use Rattle.fabric.specs.GraphOf.{number_of}

abbrev pub base_of : Wire → List ℕ
base_of (Local row column base) = base
base_of (Wide base) = base

-- the base has 1 to 255 bytes
abbrev pub HasShortBase : Wire → Type 0
HasShortBase wire = (0 < length (base_of wire)) × (length (base_of wire) ≤ 255)

-- what is to be kept is a wire with a base of 1 to 255 bytes
abbrev pub CanBeKept : WireName → Type 0
CanBeKept (Named wire) = HasShortBase wire
CanBeKept Ignored = ⊥

-- what a name stands for can be kept, or it is ignored
abbrev pub IsShortOrIgnored : WireName → Type 0
IsShortOrIgnored (Named wire) = HasShortBase wire
IsShortOrIgnored Ignored = Unit {0}

-- the number under which a wire is kept
abbrev pub number_of_name : List Wire → WireName → Option ℕ
number_of_name wires (Named wire) = number_of wires wire
number_of_name wires Ignored = None

-- the wires with one more
abbrev pub with_name : List Wire → WireName → List Wire
with_name wires (Named wire) = wires ++ wire ∷ []
with_name wires Ignored = wires
