-- What a router is given, and where it stands.
use Rattle.std.specs.Prelude.{◌≡◌, ◌≢◌, ℕ, List, ◌⊎◌}
use Rattle.words.specs.Members.{In}
use Rattle.records.specs.Side.{Side}
use Rattle.records.specs.Ripping.{Rip}
use Rattle.fabric.specs.Device.{Device}
use Rattle.circuit.specs.Parts.{PartRef, OfClock, Source, sources}
use Rattle.circuit.specs.Circuits.{Circuit, Connection, IsConnection}
use Rattle.upset.specs.Configured.{circuit_of}
use Rattle.repair.specs.Layouts.{Layout, configured}
use Rattle.repair.specs.Nets.{IsRipped}

-- the device, the design that was read, the most attempts, and which nets are ripped at the start
pub record Job : Type 0 where
  pub device : Device
  pub design : Layout
  pub rounds : ℕ
  pub rip : Rip

-- the circuit that was read
abbrev pub read_of : Job → Circuit
read_of job = circuit_of (configured job.design)

-- Where a router stands: the layout from which each attempt starts, R0 of the placement; the order of the ripped
-- connections; the rims of the attempts so far; the slices that were moved; and the side files so far.
pub record State : Type 0 where
  pub layout : Layout
  pub order : List Connection
  pub rims : List (List ℕ)
  pub moved : List (List ℕ)
  pub sides : List Side

-- a slice drives or reads the net of a part
abbrev pub Touches : Job → List ℕ → Source → Type 0
Touches job slice s = (s.part.cell ≡ slice) ⊎ ((x : Connection) × (IsConnection (read_of job) x × ((x.source ≡ s.part) × (x.pin.part.cell ≡ slice))))

-- the net of a part is ripped by the move of a slice; clock nets aren't
pub record IsRippedBy (job : Job) (slice : List ℕ) (part : PartRef) : Type 0 where
  pub source : Source
  pub listed : In (sources job.design.cells) source
  pub is : source.part ≡ part
  pub touched : Touches job slice source
  pub no_clock : source.kind ≢ OfClock

-- the net of a part is ripped at the start
pub record IsRippedFirst (job : Job) (part : PartRef) : Type 0 where
  pub source : Source
  pub listed : In (sources job.design.cells) source
  pub is : source.part ≡ part
  pub ripped : IsRipped job.rip job.device (configured job.design) source.out

-- the net of a part is ripped, at the start or by the move of one of these slices
abbrev pub IsRippedPart : Job → List (List ℕ) → PartRef → Type 0
IsRippedPart job moved part = IsRippedFirst job part ⊎ ((slice : List ℕ) × (In moved slice × IsRippedBy job slice part))
