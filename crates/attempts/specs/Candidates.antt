-- Where a slice moves: the sites of equal shape, the tests that one has to pass, and their order. (Our own.)
use Rattle.std.specs.Prelude.{◌≡◌, ◌≢◌, ℕ, ◌+◌, ◌-◌, true, false, List, ◌++◌, Ok, Option, Some, slice_get, option_and_then, unwrap_or, ◌↔◌, ◌⊎◌}
use Rattle.std.specs.declared.cmp.Ordering.{Ordering}
use Rattle.std.specs.declared.cmp.Ordering.TheVariants.{Greater}
use Rattle.std.specs.Ordering.{nat_cmp, ordering_then}
use Rattle.words.specs.Members.{In}
use Rattle.patterns.specs.Bits.{DeviceBit}
use Rattle.records.specs.Config.{ArcLine, TileText, Config}
use Rattle.records.specs.Grid.{Tile}
use Rattle.records.specs.Profile.{SliceKind, Profile}
use Rattle.records.specs.Side.{Placed, Side}
use Rattle.links.specs.Links.{Feeds, IsClean}
use Rattle.fabric.specs.Agree.{ArcsAgree}
use Rattle.fabric.specs.InOrder.{IsRising}
use Rattle.fabric.specs.Wires.{name_cmp}
use Rattle.fabric.specs.Graph.{GraphArc, Graph}
use Rattle.fabric.specs.Image.{tile_named, arc_of_line}
use Rattle.circuit.specs.Parts.{OfClock, Source, sources}
use Rattle.circuit.specs.Pins.{Pin, pins}
use Rattle.circuit.specs.Circuits.{Connection, IsConnection}
use Rattle.circuit.specs.Designs.{shape_of}
use Rattle.cells.specs.Sites.{Site, slice_kind, site_at, settings_at}
use Rattle.cells.specs.Faults.{site_of_slice}
use Rattle.cells.specs.Shapes.{equal_shape}
use Rattle.cells.specs.Resolved.{site_bits}
use Rattle.cells.specs.CellsOf.{cells_of}
use Rattle.upset.specs.Configured.{circuit_of}
use Rattle.upset.specs.Safe.{IsSafe}
use Rattle.repair.specs.Plain.{IsPlain}
use Rattle.repair.specs.Turns.{routing}
use Rattle.repair.specs.Layouts.{Layout, configured}
use Rattle.repair.specs.Lines.{WithoutArcLines}
use Rattle.repair.specs.Ripping.{IsRippedLine}
use Rattle.attempts.specs.Jobs.{Job, State, read_of, IsRippedBy, IsRippedPart}
use Rattle.attempts.specs.Moves.{Move, moved_config, moved_side}
use Rattle.attempts.specs.Wires.{connection_cmp}

-- the net of a part becomes ripped by the move of a slice: it wasn't ripped before
abbrev pub IsNewlyRipped : Job → State → List ℕ → Source → Type 0
IsNewlyRipped job state slice s = In (sources state.layout.cells) s × (IsRippedBy job slice s.part × (IsRippedPart job state.moved s.part → ⊥))

-- the wire of a net that becomes ripped
abbrev pub IsNewWire : Job → State → List ℕ → ℕ → Type 0
IsNewWire job state slice w = (s : Source) × (IsNewlyRipped job state slice s × (s.out ≡ w))

-- an arc line of a clock net, of a plain mux whose sink is a pin of the slice
pub record IsClockLine (state : State) (slice tile : List ℕ) (line : ArcLine) : Type 0 where
  pub arc : GraphArc
  pub named : option_and_then (λ number. arc_of_line state.layout.graph number line) (tile_named state.layout.graph tile) ≡ Some arc
  pub plain : IsPlain state.layout.graph state.layout.config arc.mux
  pub pin : Pin
  pub listed : In (pins state.layout.cells) pin
  pub of_slice : pin.ref.part.cell ≡ slice
  pub at_pin : pin.wire ≡ arc.sink
  pub net : Source
  pub is_net : In (sources state.layout.cells) net
  pub is_clock : net.kind ≡ OfClock
  pub feeds : Feeds (routing (configured state.layout)) net.out arc.sink

-- the lines that the move of a slice removes: those of nets that become ripped, and clock lines at its pins
abbrev pub IsRemoved : Job → State → List ℕ → List ℕ → ArcLine → Type 0
IsRemoved job state slice tile line = IsRippedLine (IsNewWire job state slice) state.layout.config (configured state.layout) tile line ⊎ IsClockLine state slice tile line

-- a clock connection that the move of a slice rips, with the line that is removed
pub record IsClockRipped (state : State) (slice : List ℕ) (x : Connection) : Type 0 where
  pub text : TileText
  pub line : ArcLine
  pub section : In state.layout.config.tiles text
  pub listed : In text.arcs line
  pub clock : IsClockLine state slice text.tile line
  pub from : x.source ≡ clock.net.part
  pub to : x.pin ≡ clock.pin.ref

-- a connection that becomes ripped by the move of a slice
pub record BecomesRipped (job : Job) (state : State) (slice : List ℕ) (x : Connection) : Type 0 where
  pub connects : IsConnection (read_of job) x
  pub new : In state.order x → ⊥
  pub lost : (IsRippedBy job slice x.source × (IsRippedPart job state.moved x.source → ⊥)) ⊎ IsClockRipped state slice x

-- a move, the layout that it makes of the present one, and the connections that become ripped
pub record Step : Type 0 where
  pub move : Move
  pub layout : Layout
  pub ripped : List Connection

-- the site of a kind of slices in a tile, by their names
abbrev pub site_named : Graph → Profile → List ℕ → List ℕ → Option (Site SliceKind)
site_named g profile tile kind = option_and_then (site_at g (slice_kind profile kind)) (tile_named g tile)

-- the present and the new site of a slice
pub record HasSites (job : Job) (state : State) (m : Move) (old new : Site SliceKind) : Type 0 where
  pub from : site_of_slice state.layout.graph job.device.profile state.layout.side m.slice ≡ Some old
  pub to : site_named state.layout.graph job.device.profile m.tile m.kind ≡ Some new

-- The layout after a move, R0 of the new placement: the present one, moved, without the lines that the move removes.
pub record IsMoved (job : Job) (state : State) (step : Step) (old new : Site SliceKind) : Type 0 where
  pub sites : HasSites job state step.move old new
  pub rest : Config
  pub without : WithoutArcLines (IsRemoved job state step.move.slice) state.layout.config rest
  pub graph : step.layout.graph ≡ state.layout.graph
  pub text : step.layout.config ≡ moved_config old new rest
  pub side : step.layout.side ≡ moved_side step.move state.layout.side
  pub cells : cells_of state.layout.graph job.device.profile (configured step.layout).image step.layout.side ≡ Ok step.layout.cells
  pub ripped_in_order : IsRising (connection_cmp step.layout.cells) step.ripped
  pub ripped : (x : Connection) → In step.ripped x ↔ BecomesRipped job state step.move.slice x

-- A candidate: a site of equal shape at which no named slice stands and none of whose settings has a set bit. After
-- the move the layout is clean, its arcs agree, its cells are the same but for their wires, each feed of a pin is a
-- modelled output, it has each connection that isn't ripped and none that the circuit doesn't have, and it is safe.
pub record IsCandidate (job : Job) (state : State) (step : Step) : Type 0 where
  pub old : Site SliceKind
  pub new : Site SliceKind
  pub moved : IsMoved job state step old new
  pub shape : equal_shape (settings_at state.layout.graph old) old.kind (settings_at state.layout.graph new) new.kind ≡ true
  pub empty : (p : Placed) → In state.layout.side.slices p → p.tile ≡ step.move.tile → p.kind ≡ step.move.kind → ⊥
  pub clear : (b : DeviceBit) → In (site_bits state.layout.graph new new.kind.settings) b → (configured state.layout).image b ≡ false
  pub clean : IsClean (routing (configured step.layout))
  pub agree : ArcsAgree step.layout.graph (configured step.layout).image step.layout.config
  pub alike : shape_of step.layout.cells ≡ shape_of state.layout.cells
  pub modelled : (p : Pin) (o : ℕ) → In (pins step.layout.cells) p → Feeds (routing (configured step.layout)) o p.wire → (s : Source) × (In (sources step.layout.cells) s × (s.out ≡ o))
  pub connected : (x : Connection) → IsConnection (read_of job) x → (In (state.order ++ step.ripped) x → ⊥) → IsConnection (circuit_of (configured step.layout)) x
  pub none_new : (x : Connection) → IsConnection (circuit_of (configured step.layout)) x → IsConnection (read_of job) x
  pub safe : IsSafe (configured step.layout)

-- the slice held the site before in this run
abbrev pub WasHeld : State → Move → Type 0
WasHeld state m = (side : Side) × (In state.sides side × ((p : Placed) × (In side.slices p × ((p.name ≡ m.slice) × ((p.tile ≡ m.tile) × (p.kind ≡ m.kind))))))

-- the row and the column of a tile
abbrev pub place_of : Tile → ℕ × ℕ
place_of tile = unwrap_or tile.place (0, 0)

-- how far two numbers lie apart
abbrev pub apart : ℕ → ℕ → ℕ
apart m n = (m - n) + (n - m)

-- the sum of row and column distance of two tiles
abbrev pub distance : Tile → Tile → ℕ
distance t u = apart (place_of t).0 (place_of u).0 + apart (place_of t).1 (place_of u).1

-- sites are ordered by their distance from a site, then row, column, the kind's name and the tile's
abbrev pub site_cmp : Site SliceKind → Site SliceKind → Site SliceKind → Ordering
site_cmp from a b =
    ordering_then (nat_cmp (distance from.tile a.tile) (distance from.tile b.tile))
    (ordering_then (nat_cmp (place_of a.tile).0 (place_of b.tile).0)
    (ordering_then (nat_cmp (place_of a.tile).1 (place_of b.tile).1)
    (ordering_then (name_cmp a.kind.name b.kind.name) (name_cmp a.tile.name b.tile.name))))

-- the first candidate for a slice of those that it hasn't held
pub record IsFirst (job : Job) (state : State) (slice : List ℕ) (step : Step) : Type 0 where
  pub candidate : IsCandidate job state step
  pub of_slice : step.move.slice ≡ slice
  pub new : WasHeld state step.move → ⊥
  pub first : (other : Step) (c : IsCandidate job state other) → other.move.slice ≡ slice → (WasHeld state other.move → ⊥) → site_cmp candidate.old candidate.new c.new ≢ Greater

-- the slice has no candidate that it hasn't held
abbrev pub HasNone : Job → State → List ℕ → Type 0
HasNone job state slice = (step : Step) → IsCandidate job state step → step.move.slice ≡ slice → (WasHeld state step.move → ⊥) → ⊥
