-- Where the disturbance begins: hit wires, and sources of shorted wires. In a clean image domains go along
-- counting drivers, so these wires have all the domains that the disturbed wires have. (Our own.)
use Rattle.std.specs.Prelude.{ℕ, ◌⊎◌}
use Rattle.patterns.specs.Bits.{Bits}
use Rattle.records.specs.Side.{Domain}
use Rattle.circuit.specs.Faults.{OneHas}
use Rattle.upset.specs.Configured.{Configured, circuit_of}
use Rattle.upset.specs.Effect.{IsHit, IsShortSource, IsTouched}

abbrev pub IsRoot : Configured → Bits → ℕ → Type 0
IsRoot k flips w = IsHit k flips w ⊎ IsShortSource k flips w

-- d is the domain of a root or of a touched cell
abbrev pub RootsHave : Configured → Bits → Domain → Type 0
RootsHave k flips d = OneHas (circuit_of k) (IsRoot k flips) (IsTouched k flips) d
