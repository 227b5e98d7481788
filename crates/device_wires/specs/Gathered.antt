-- Wires that are put in order one after the other, each once. (Our own.)
use Rattle.std.specs.Prelude.{◌≡◌, ◌≤◌, ℕ, List, [], ◌∷◌, length}
use Rattle.words.specs.Members.{In}
use Rattle.records.specs.Limits.{most_wires}
use Rattle.fabric.specs.InOrder.{IsRising}
use Rattle.fabric.specs.Wires.{Wire, wire_cmp}
use Rattle.fabric_laws.specs.Insertion.{inserted}
use Rattle.wire_names.specs.Kept.{HasShortBase}

-- wires in order, with more of them put in
abbrev pub gathered : List Wire → List Wire → List Wire
gathered wires [] = wires
gathered wires (wire ∷ more) = gathered (inserted wire_cmp wire wires) more

-- wires in wire order, each once, that can be kept, and as many as there are numbers at most
pub record AreGathered (wires : List Wire) : Type 0 where
  pub rising : IsRising wire_cmp wires
  pub short : (wire : Wire) → In wires wire → HasShortBase wire
  pub few : length wires ≤ most_wires

-- wires in wire order, as many as are counted
pub record AreCounted (wires : List Wire) (count : ℕ) : Type 0 where
  pub rising : IsRising wire_cmp wires
  pub counted : count ≡ length wires
  pub few : count ≤ most_wires
