-- Usable arcs: those that may be added to a routing for a net, so that it stays clean and safe. (Our own.)
use Rattle.std.specs.Prelude.{◌≡◌, ◌≢◌, ℕ, pos, negsuc, Bool, true, false, Some, nat_lt, slice_get, ◌&&◌}
use Rattle.words.specs.Members.{In}
use Rattle.patterns.specs.Bits.{DeviceBit, flipped}
use Rattle.patterns.specs.Fits.{present}
use Rattle.records.specs.Grid.{Grid}
use Rattle.records.specs.Config.{Config}
use Rattle.records.specs.Side.{Domain}
use Rattle.links.specs.Links.{Link, Routing, Drives, Below, Fed}
use Rattle.fabric.specs.Wires.{Wire, Local, Wide}
use Rattle.fabric.specs.Graph.{GraphMux, GraphArc}
use Rattle.fabric.specs.Links.{is_chosen}
use Rattle.fabric.specs.MuxBits.{is_mux_bit}
use Rattle.circuit.specs.Pins.{Pin, pins}
use Rattle.circuit.specs.Circuits.{IsConnection}
use Rattle.circuit.specs.Domains.{HasDomain}
use Rattle.upset.specs.Configured.{Configured, circuit_of}
use Rattle.upset.specs.Effect.{IsDisturbed}
use Rattle.upset.specs.Safe.{FlipsHave, only}
use Rattle.repair.specs.Plain.{bits_of_mux, IsPlain}
use Rattle.repair.specs.Added.{with_arc}
use Rattle.repair.specs.Turns.{Turn, routing}

-- a local wire whose row and column lie in the grid
abbrev pub is_on_grid : Grid → Wire → Bool
is_on_grid grid (Local (pos row) (pos column) base) = nat_lt row grid.height && nat_lt column grid.width
is_on_grid grid (Local (pos row) (negsuc column) base) = false
is_on_grid grid (Local (negsuc row) column base) = false
is_on_grid grid (Wide base) = false

-- Rule 1. The sink is a local wire on the grid. It has exactly one mux, which is plain, no fixed connection or
-- join leads into it, and none of the mux's bits is set.
pub record HasFreeSink (k : Configured) (config : Config) (a : GraphArc) : Type 0 where
  pub wire : Wire
  pub named : slice_get k.graph.wires a.sink ≡ Some wire
  pub on_grid : is_on_grid k.graph.grid wire ≡ true
  pub one_mux : (number : ℕ) (mux : GraphMux) → slice_get k.graph.muxes number ≡ Some mux → mux.sink ≡ a.sink → number ≡ a.mux
  pub plain : IsPlain k.graph config a.mux
  pub none_fixed : (link : Link) → In k.graph.fixed link → link.sink ≢ a.sink
  pub clear : (b : DeviceBit) → In (bits_of_mux k.graph a.mux) b → k.image b ≡ false

-- just one wire drives a wire
abbrev pub HasOneDriver : Routing → ℕ → Type 0
HasOneDriver r w = (x : ℕ) × (Drives r x w × ((y : ℕ) → Drives r y w → y ≡ x))

-- Rule 2. Each wire below the sink, other than the sink, has exactly one driver.
abbrev pub OneDriverEachBelow : Configured → GraphArc → Type 0
OneDriverEachBelow k a = (w : ℕ) → Below (routing k) a.sink w → w ≢ a.sink → HasOneDriver (routing k) w

-- Rule 3, of the routing. No wire below the sink has a feed or is a cell output.
pub record NoneFedBelow (k : Configured) (a : GraphArc) : Type 0 where
  pub unfed : (w : ℕ) → Below (routing k) a.sink w → Fed (routing k) w → ⊥
  pub no_output : (w : ℕ) → Below (routing k) a.sink w → In k.graph.outputs w → ⊥

-- Rule 3, of the circuit. A wire below the sink that is the wire of a named cell's pin is that of a pin to which
-- this net has a connection in the circuit that was read.
abbrev pub OwnPinsBelow : Turn → GraphArc → Type 0
OwnPinsBelow t a = (w : ℕ) → Below (routing t.now) a.sink w → (p : Pin) → In (pins t.now.cells) p → p.wire ≡ w
    → IsConnection t.read (record { source = t.net.part; pin = p.ref })

-- Rule 4, of the routing. With the arc's pattern written, the mux chooses this arc alone.
pub record IsChosenAlone (k : Configured) (a : GraphArc) : Type 0 where
  pub chosen : is_chosen k.graph (with_arc k.image a) a ≡ true
  pub alone : (other : GraphArc) → In k.graph.arcs other → other.mux ≡ a.mux → is_chosen k.graph (with_arc k.image a) other ≡ true → other ≡ a

-- Rule 4, of flips. With the arc's pattern written, after each flip of one bit of the mux the source of each arc
-- that is present has no domain or the net's.
abbrev pub FlipsStayWithin : Turn → GraphArc → Type 0
FlipsStayWithin t a = (b : DeviceBit) → In (bits_of_mux t.now.graph a.mux) b
    → (other : GraphArc) → In t.now.graph.arcs other → other.mux ≡ a.mux → present (flipped (only b) (with_arc t.now.image a)) other.origin other.arc.bits ≡ true
    → (d : Domain) → HasDomain (circuit_of t.now) other.source d → d ≡ t.net.domain

-- Rule 5. Each routing-mux bit that disturbs a wire below the sink has no domain other than the net's.
abbrev pub NoneForeignDisturbsBelow : Turn → GraphArc → Type 0
NoneForeignDisturbsBelow t a = (b : DeviceBit) → is_mux_bit t.now.graph b ≡ true
    → (w : ℕ) → Below (routing t.now) a.sink w → IsDisturbed t.now (only b) w
    → (d : Domain) → FlipsHave t.now (only b) d → d ≡ t.net.domain

-- what the routing itself asks of an arc that is added to it, whatever net it is for
pub record IsRoutable (k : Configured) (config : Config) (a : GraphArc) : Type 0 where
  pub listed : In k.graph.arcs a
  pub free_sink : HasFreeSink k config a
  pub one_driver : OneDriverEachBelow k a
  pub none_fed : NoneFedBelow k a
  pub chosen : IsChosenAlone k a

-- an arc is usable for a net: the routing takes it, and the three rules hold that look at the net
pub record IsUsable (t : Turn) (a : GraphArc) : Type 0 where
  pub routable : IsRoutable t.now t.config a
  pub own_pins : OwnPinsBelow t a
  pub flips : FlipsStayWithin t a
  pub disturbed : NoneForeignDisturbsBelow t a
