-- Connections by the wires that they have in a placement, and their order. (Our own.)
use Rattle.std.specs.Prelude.{ℕ, find, Option}
use Rattle.std.specs.Option.{option_map_or}
use Rattle.std.specs.declared.cmp.Ordering.{Ordering}
use Rattle.std.specs.Ordering.{nat_cmp, ordering_then, is_eq}
use Rattle.circuit.specs.Cells.{Cells}
use Rattle.circuit.specs.Parts.{PartRef, Source, sources}
use Rattle.circuit.specs.Pins.{PinRef, Pin, pins}
use Rattle.circuit.specs.Circuits.{Connection}
use Rattle.attempts.specs.PinOrder.{part_cmp, pin_cmp}

-- the part of a name with its output, and the pin of a name with its wire
abbrev pub source_named : Cells → PartRef → Option Source
source_named cells part = find (λ s. is_eq (part_cmp s.part part)) (sources cells)

abbrev pub pin_named : Cells → PinRef → Option Pin
pin_named cells ref = find (λ p. is_eq (pin_cmp p.ref ref)) (pins cells)

-- the wire of a connection's net, and that of its pin
abbrev pub net_wire : Cells → Connection → ℕ
net_wire cells x = option_map_or (λ s. s.out) (source_named cells x.source) 0

abbrev pub pin_wire : Cells → Connection → ℕ
pin_wire cells x = option_map_or (λ p. p.wire) (pin_named cells x.pin) 0

-- connections are ordered by the wire of their net, the wire of their pin, then the pin
abbrev pub connection_cmp : Cells → Connection → Connection → Ordering
connection_cmp cells x y = ordering_then (nat_cmp (net_wire cells x) (net_wire cells y)) (ordering_then (nat_cmp (pin_wire cells x) (pin_wire cells y)) (pin_cmp x.pin y.pin))
