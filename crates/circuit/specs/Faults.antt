-- Faults: wires and cells that may carry anything from now on. (Our own.)
use Rattle.std.specs.Prelude.{◌≡◌, ℕ, List, [], ◌⊎◌}
use Rattle.words.specs.Members.{In}
use Rattle.records.specs.Side.{Domain}
use Rattle.circuit.specs.Triples.{LiesIn}
use Rattle.circuit.specs.Circuits.{Circuit}
use Rattle.circuit.specs.Domains.{HasDomain}

-- the disturbed wires and the names of the touched cells
pub record Fault : Type 0 where
  pub disturbed : List ℕ
  pub touched : List (List ℕ)

abbrev pub no_fault : Fault
no_fault = record { disturbed = []; touched = [] }

-- d is the domain of one of some wires or of one of some named cells
abbrev pub OneHas : Circuit → (ℕ → Type 0) → (List ℕ → Type 0) → Domain → Type 0
OneHas c IsWire IsCell d = ((w : ℕ) × (IsWire w × HasDomain c w d)) ⊎ ((name : List ℕ) × (IsCell name × LiesIn c.cells name d))

-- a domain of the fault: that of a disturbed wire or of a touched cell
abbrev pub FaultHas : Circuit → Fault → Domain → Type 0
FaultHas c f d = OneHas c (In f.disturbed) (In f.touched) d

-- the fault has one domain at most
abbrev pub WithinOneDomain : Circuit → Fault → Type 0
WithinOneDomain c f = (d e : Domain) → FaultHas c f d → FaultHas c f e → d ≡ e
