-- The order of parts and pins. (Our own.)
use Rattle.std.specs.Prelude.{ℕ}
use Rattle.std.specs.declared.cmp.Ordering.{Ordering}
use Rattle.std.specs.Ordering.{nat_cmp, ordering_then}
use Rattle.fabric.specs.Wires.{name_cmp}
use Rattle.circuit.specs.Parts.{PartKind, Table, Register, Pad, PartRef}
use Rattle.circuit.specs.Pins.{PinRef}

-- tables come before registers
abbrev pub rank_of : PartKind → ℕ
rank_of (Table n) = 0
rank_of (Register n) = 1
rank_of Pad = 2

abbrev pub number_of : PartKind → ℕ
number_of (Table n) = n
number_of (Register n) = n
number_of Pad = 0

-- parts are ordered by the name of their cell, tables before registers, then by number
abbrev pub part_cmp : PartRef → PartRef → Ordering
part_cmp a b = ordering_then (name_cmp a.cell b.cell) (ordering_then (nat_cmp (rank_of a.part) (rank_of b.part)) (nat_cmp (number_of a.part) (number_of b.part)))

-- pins by part, then by number
abbrev pub pin_cmp : PinRef → PinRef → Ordering
pin_cmp a b = ordering_then (part_cmp a.part b.part) (nat_cmp a.pin b.pin)
