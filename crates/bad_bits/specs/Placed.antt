-- Bad bits by the names of their wires, and by number. (Our own.)
use Rattle.std.specs.Prelude.{◌≡◌, List, [], ◌∷◌, Some, slice_get}
use Rattle.fabric.specs.Wires.{Wire}
use Rattle.fabric.specs.Graph.{Graph}
use Rattle.reports.specs.Reports.{Place, AtWire, InCell, BadPlace}
use Rattle.bad_bits.specs.Numbered.{NumberedPlace, OnWire, OnCell, NumberedBad}

-- the place is the wire of the number, or the cell of the name
abbrev pub IsNamed : Graph → NumberedPlace → Place → Type 0
IsNamed g (OnWire w) place = (wire : Wire) × ((slice_get g.wires w ≡ Some wire) × (place ≡ AtWire wire))
IsNamed g (OnCell name) place = place ≡ InCell name

-- the same bit and domains, at the same places
pub record IsPlaced (g : Graph) (n : NumberedBad) (b : BadPlace) : Type 0 where
  pub bit : n.bit ≡ b.bit
  pub first : n.first ≡ b.first
  pub first_at : IsNamed g n.first_at b.first_at
  pub second : n.second ≡ b.second
  pub second_at : IsNamed g n.second_at b.second_at

-- the same bad bits, one by one
abbrev pub ArePlaced : Graph → List NumberedBad → List BadPlace → Type 0
ArePlaced g [] [] = Unit {0}
ArePlaced g [] (b ∷ bs) = ⊥
ArePlaced g (n ∷ ns) [] = ⊥
ArePlaced g (n ∷ ns) (b ∷ bs) = IsPlaced g n b × ArePlaced g ns bs
