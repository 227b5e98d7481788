-- What the list of the feeds of pins tells of a circuit whose routing is clean and whose cells are well formed. (Our own.)
use Rattle.std.specs.Prelude.{◌≡◌, ◌↔◌, ℕ, List, Option, Some, slice_get}
use Rattle.words.specs.Members.{In}
use Rattle.records.specs.Side.{Domain}
use Rattle.links.specs.Links.{Fed, Feeds, IsClean}
use Rattle.circuit.specs.Parts.{Source, sources}
use Rattle.circuit.specs.Pins.{Pin, pins}
use Rattle.circuit.specs.Circuits.{Circuit, Connects, IsRead, Connection, IsConnection}
use Rattle.circuit.specs.Domains.{HasDomain}
use Rattle.circuit.specs.WellFormed.{IsWellFormed}
use Rattle.fabric.specs.Wires.{Wire}
use Rattle.fabric.specs.Graph.{Graph}
use Rattle.answers.specs.Refusals.{UnnamedSource}
use Rattle.design_checks.specs.PinChecks.{SourceUnnamed}
use Rattle.pin_feeds.specs.declared.errors.UnnamedFeed.{UnnamedFeed}
use Rattle.pin_feeds.specs.Unnamed.{IsUnnamedFeed}
use Rattle.pin_feeds.specs.PinFeeds.{ArePinFeeds, feed_source, connections_with}

-- The list is that of a circuit with a clean routing and well-formed cells.
pub record Tells (c : Circuit) (feeds : List (Option ℕ)) : Type 0 where
  pub clean : IsClean c.routing
  pub formed : IsWellFormed c
  pub are : ArePinFeeds c feeds

-- a part is connected to a pin exactly where the list names it for the pin
abbrev pub ConnectsAreTold : Type 0
ConnectsAreTold = (c : Circuit) (feeds : List (Option ℕ)) → Tells c feeds
    → (i : ℕ) (p : Pin) (s : Source) → slice_get (pins c.cells) i ≡ Some p → Connects c s p ↔ (feed_source c.cells feeds i ≡ Some s)

-- a part is read exactly where the list names it for some pin
abbrev pub ReadIsTold : Type 0
ReadIsTold = (c : Circuit) (feeds : List (Option ℕ)) → Tells c feeds
    → (s : Source) → IsRead c s ↔ ((i : ℕ) × (feed_source c.cells feeds i ≡ Some s))

-- a pin has a feed exactly where the list names a part for it
abbrev pub FedIsTold : Type 0
FedIsTold = (c : Circuit) (feeds : List (Option ℕ)) → Tells c feeds
    → (i : ℕ) (p : Pin) → slice_get (pins c.cells) i ≡ Some p → Fed c.routing p.wire ↔ ((s : Source) × (feed_source c.cells feeds i ≡ Some s))

-- the wire of a pin has the domain of the part that the list names, and none where it names none
abbrev pub DomainsAreTold : Type 0
DomainsAreTold = (c : Circuit) (feeds : List (Option ℕ)) → Tells c feeds
    → (i : ℕ) (p : Pin) (d : Domain) → slice_get (pins c.cells) i ≡ Some p
    → HasDomain c p.wire d ↔ ((s : Source) × ((feed_source c.cells feeds i ≡ Some s) × (s.domain ≡ d)))

-- each feed of a pin is the output of a part
abbrev pub FeedsAreNamed : Type 0
FeedsAreNamed = (c : Circuit) (feeds : List (Option ℕ)) → IsClean c.routing → ArePinFeeds c feeds
    → (p : Pin) (o : ℕ) → In (pins c.cells) p → Feeds c.routing o p.wire → (s : Source) × (In (sources c.cells) s × (s.out ≡ o))

-- the connections that the list tells are those of the circuit
abbrev pub ConnectionsAreListed : Type 0
ConnectionsAreListed = (c : Circuit) (feeds : List (Option ℕ)) → Tells c feeds
    → (x : Connection) → In (connections_with c.cells feeds) x ↔ IsConnection c x

-- What an error names is what the check of a design refuses, where the wire with the number of the feed has this name in the graph.
abbrev pub UnnamedIsRefused : Type 0
UnnamedIsRefused = (g : Graph) (c : Circuit) (u : UnnamedFeed) (named : IsUnnamedFeed c u) (wire : Wire) → slice_get g.wires u.feed ≡ Some wire → SourceUnnamed g c (UnnamedSource named.pin.ref wire)
