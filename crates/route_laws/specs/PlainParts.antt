-- Parts, pins and connections told apart, and the connections of a circuit, computed as plainly as can be.
use Rattle.std.specs.Prelude.{Bool, true, false, List, map, filter, flat_map, ◌==◌, ◌&&◌, bytes_eq}
use Rattle.std.specs.List.{list_any}
use Rattle.links.specs.Below.{below, has}
use Rattle.circuit.specs.Parts.{PartKind, Table, Register, Pad, PartRef, sources}
use Rattle.circuit.specs.Pins.{PinRef, pins}
use Rattle.circuit.specs.Circuits.{Circuit, Connection}

abbrev pub same_kind : PartKind → PartKind → Bool
same_kind (Table m) (Table n) = m == n
same_kind (Register m) (Register n) = m == n
same_kind Pad Pad = true
same_kind _ _ = false

abbrev pub same_part : PartRef → PartRef → Bool
same_part a b = bytes_eq a.cell b.cell && same_kind a.part b.part

abbrev pub same_pin : PinRef → PinRef → Bool
same_pin a b = same_part a.part b.part && (a.pin == b.pin)

abbrev pub same_connection : Connection → Connection → Bool
same_connection x y = same_part x.source y.source && same_pin x.pin y.pin

-- the connections of a circuit: each part with the pins that its output feeds
abbrev pub connections : Circuit → List Connection
connections c = flat_map
    (λ s. let fed = below c.routing.links s.out in map (λ p. record { source = s.part; pin = p.ref }) (filter (λ p. has fed p.wire) (pins c.cells)))
    (filter (λ s. has c.routing.outputs s.out) (sources c.cells))

abbrev pub is_listed : List Connection → Connection → Bool
is_listed xs x = list_any (same_connection x) xs
