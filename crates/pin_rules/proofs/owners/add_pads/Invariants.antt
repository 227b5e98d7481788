use Rattle.std.proofs.Common.{◌≡◌, ◌++◌, ℕ, drop}
use Rattle.circuit.specs.Parts.{numbered}
use Rattle.circuit.specs.Pins.{Pin}
use Rattle.pin_rules.specs.declared.owners.PinOwner.TheVariants.{Pad}
use Rattle.pin_rules.proofs.owners.add_pads.Given as goal

-- the owners so far, with those of the rest, are all
abbrev pub invariant-loop-number : goal.invariant-loop-number
invariant-loop-number l =
    l.owners.items ++ numbered (λ (n : ℕ) (p : Pin). Pad n) l.number (drop l.number l.pins) ≡ l.fn.owners.items ++ numbered (λ (n : ℕ) (p : Pin). Pad n) 0 l.pins
