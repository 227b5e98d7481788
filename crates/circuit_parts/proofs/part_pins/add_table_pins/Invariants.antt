use Rattle.std.proofs.Common.{◌≡◌, ◌++◌, drop}
use Rattle.cell_parts.specs.PartViews.{part_of}
use Rattle.circuit.specs.Parts.{numbered}
use Rattle.circuit.specs.Pins.{pin_at}
use Rattle.circuit_parts.proofs.part_pins.add_table_pins.Given as goal

-- the pins so far, and the wires that are left
abbrev pub invariant-loop-number : goal.invariant-loop-number
invariant-loop-number l =
    l.pins.items ++ numbered (pin_at (record { cell = l.cell; part = part_of l.part })) l.number (drop l.number l.wire-items) ≡ l.fn.pins.items ++ numbered (pin_at (record { cell = l.cell; part = part_of l.part })) 0 l.wire-items
