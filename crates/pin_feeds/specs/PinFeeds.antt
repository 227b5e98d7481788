-- What feeds each pin, by numbers: a list beside that of the pins, in which each entry is the number of a part with an output.
-- (Our own.)
use Rattle.std.specs.Prelude.{◌≡◌, ℕ, List, length, get_or, slice_get, filter_map, Option, None, Some, option_map, option_and_then}
use Rattle.std.specs.List.{zip}
use Rattle.links.specs.Links.{Fed, Feeds}
use Rattle.circuit.specs.Cells.{Cells}
use Rattle.circuit.specs.Parts.{Source, sources}
use Rattle.circuit.specs.Pins.{Pin, pins}
use Rattle.circuit.specs.Circuits.{Circuit, Connection}

-- A pin has no feed, or the part with this number feeds it.
abbrev pub IsPinFeed : Circuit → Pin → Option ℕ → Type 0
IsPinFeed c p None = Fed c.routing p.wire → ⊥
IsPinFeed c p (Some k) = (s : Source) × ((slice_get (sources c.cells) k ≡ Some s) × Feeds c.routing s.out p.wire)

-- The list has for each pin what feeds it.
pub record ArePinFeeds (c : Circuit) (feeds : List (Option ℕ)) : Type 0 where
  pub long : length feeds ≡ length (pins c.cells)
  pub each : (i : ℕ) (p : Pin) (feed : Option ℕ) → slice_get (pins c.cells) i ≡ Some p → slice_get feeds i ≡ Some feed → IsPinFeed c p feed

-- the part that the list names for the pin with this number
abbrev pub feed_source : Cells → List (Option ℕ) → ℕ → Option Source
feed_source cells feeds i = option_and_then (slice_get (sources cells)) (get_or feeds i None)

-- the connection to a pin from the part with this number
abbrev pub connection_with : Cells → Pin → Option ℕ → Option Connection
connection_with cells p feed = option_map (λ s. record { source = s.part; pin = p.ref }) (option_and_then (slice_get (sources cells)) feed)

-- the connections that such a list tells, in order of pins
abbrev pub connections_with : Cells → List (Option ℕ) → List Connection
connections_with cells feeds = filter_map (λ x. connection_with cells x.0 x.1) (zip (pins cells) feeds)
