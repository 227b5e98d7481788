-- Labels of wires: the domain of each, and whether it is the wire of a pin. (Our own.)
use Rattle.std.specs.Prelude.{◌≡◌, ◌↔◌, ℕ, Bool, true, false, List, [], ◌∷◌, map, get_or, slice_get, slice_set, Option, None, Some, option_map, option_and_then}
use Rattle.words.specs.Members.{In}
use Rattle.records.specs.Side.{Domain}
use Rattle.circuit.specs.Parts.{Source}
use Rattle.circuit.specs.Pins.{Pin, pins}
use Rattle.circuit.specs.Circuits.{Circuit}
use Rattle.circuit.specs.Domains.{HasDomain}

-- for each wire its domain, and whether a pin takes it
pub record WireLabels : Type 0 where
  pub domains : List (Option Domain)
  pub is_pin : List Bool

-- The labels are those of a circuit: each wire has the domain that stands there, and none where none stands there, and a wire is
-- marked exactly where it is that of a pin.
pub record AreLabels (c : Circuit) (l : WireLabels) : Type 0 where
  pub domains_are : (w : ℕ) (d : Domain) → HasDomain c w d ↔ (get_or l.domains w None ≡ Some d)
  pub pins_are : (w : ℕ) → (get_or l.is_pin w false ≡ true) ↔ In (map (λ p. p.wire) (pins c.cells)) w

-- the domain of the part of a feed, by the part of each output
abbrev pub domain_by : List Source → List (Option ℕ) → Option ℕ → Option Domain
domain_by all parts feed = option_map (λ s. s.domain) (option_and_then (slice_get all) (option_and_then (λ o. get_or parts o None) feed))

-- the marks with the wires of pins marked
abbrev pub marks_with : List Bool → List Pin → List Bool
marks_with marks [] = marks
marks_with marks (p ∷ ps) = marks_with (slice_set marks p.wire true) ps
