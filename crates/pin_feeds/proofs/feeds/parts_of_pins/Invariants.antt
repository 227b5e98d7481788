use Rattle.std.proofs.Common.{◌≡◌, ◌++◌, drop, map}
use Rattle.pin_feeds.specs.Outputs.{part_at}
use Rattle.pin_feeds.proofs.feeds.parts_of_pins.Given as goal

-- the parts so far, and those of the pins that are left
abbrev pub invariant-loop-pin : goal.invariant-loop-pin
invariant-loop-pin l = l.parts.items ++ map (λ p. part_at l.feeds l.of_wires p.wire) (drop l.pin-index l.pins) ≡ map (λ p. part_at l.feeds l.of_wires p.wire) l.pins
