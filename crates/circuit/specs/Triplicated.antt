-- Triplicated circuits: three copies of each part, with voters that mask one faulty copy. The rules but the first
-- and the last speak of read parts and output pads alone. (Majority voting; the rules are our own.)
use Rattle.std.specs.Prelude.{◌≡◌, ℕ, ◌⊎◌}
use Rattle.words.specs.Members.{In}
use Rattle.links.specs.Links.{Fed, Reaches}
use Rattle.records.specs.Side.{Domain, D0, D1, D2, Triple}
use Rattle.circuit.specs.Cells.{TableCell, RegisterCell, PadCell}
use Rattle.circuit.specs.Parts.{PartRef, Table, OfTable, OfRegister, OfClock, Source, sources, output_pads}
use Rattle.circuit.specs.Pins.{Pin, bit_pins, clock_pins, source_pins, pad_pin}
use Rattle.circuit.specs.Triples.{IsEntry, all_triples, triple_of, LiesIn}
use Rattle.circuit.specs.Circuits.{Circuit, Connects, IsRead, IsReadBy}
use Rattle.circuit.specs.Domains.{HasDomain}
use Rattle.circuit.specs.Tables.{Ignores, Masks, TablesAlike}
use Rattle.circuit.specs.Registers.{FedAlike, RegistersAlike}

-- a read part
pub record ReadPart (c : Circuit) (s : Source) : Type 0 where
  pub listed : In (sources c.cells) s
  pub read : IsRead c s

-- Entry i of each triple lies in domain i.
pub record EntriesInDomain (c : Circuit) : Type 0 where
  pub first : (t : Triple) → In (all_triples c.side) t → LiesIn c.cells t.first D0
  pub second : (t : Triple) → In (all_triples c.side) t → LiesIn c.cells t.second D1
  pub third : (t : Triple) → In (all_triples c.side) t → LiesIn c.cells t.third D2

-- A pin that is no clock pin and has no feed is a table's, and that table's output is the same for both bits at
-- this pin. So the pin of an output pad has a feed.
pub record OpenPinsIgnored (c : Circuit) : Type 0 where
  pub parts : (s : Source) (p : Pin) → ReadPart c s → In (bit_pins s) p → (Fed c.routing p.wire → ⊥) → Ignores s.kind p.ref.pin
  pub pads : (p : PadCell) → In (output_pads c.cells) p → Fed c.routing p.wire

-- a clock pad feeds the pin
abbrev pub FedByClock : Circuit → Pin → Type 0
FedByClock c p = (a : Source) × (Connects c a p × (a.kind ≡ OfClock))

-- No pin other than a clock pin is fed by a clock pad. The clock pin of each register is a wire that a clock pad
-- feeds.
pub record ClocksAreClocks (c : Circuit) : Type 0 where
  pub parts : (s : Source) (p : Pin) → ReadPart c s → In (bit_pins s) p → FedByClock c p → ⊥
  pub pads : (p : PadCell) → In (output_pads c.cells) p → FedByClock c (pad_pin p) → ⊥
  pub clocked : (s : Source) (r : RegisterCell) → ReadPart c s → s.kind ≡ OfRegister r → (p : Pin) × (In (clock_pins s) p × FedByClock c p)

-- a table that the side file lists as a voter
abbrev pub IsVoter : Circuit → PartRef → Type 0
IsVoter c part = (n : ℕ) × ((part.part ≡ Table n) × In c.side.voters (record { slice = part.cell; table = n }))

-- Each pin that has a feed is fed from its own domain, unless it is a pin of a table listed as a voter. The feed
-- of such a voter's pin is a modelled output.
pub record ReadsOwnDomain (c : Circuit) : Type 0 where
  pub parts : (s : Source) (p : Pin) → ReadPart c s → In (source_pins s) p → Fed c.routing p.wire
      → HasDomain c p.wire s.domain ⊎ (IsVoter c s.part × ((d : Domain) × HasDomain c p.wire d))
  pub pads : (p : PadCell) → In (output_pads c.cells) p → Fed c.routing p.wire → HasDomain c p.wire p.domain

-- Each table masks any one domain other than its own.
abbrev pub TablesMask : Circuit → Type 0
TablesMask c = (s : Source) (t : TableCell) → ReadPart c s → s.kind ≡ OfTable t → Masks c s t

-- The tables of a triple give equal outputs for each assignment, its registers are alike, and the output pads of
-- a triple are fed by the same triple. A copy that isn't read isn't compared.
pub record CopiesAlike (c : Circuit) : Type 0 where
  pub tables : (s u : Source) (t v : TableCell) → ReadPart c s → ReadPart c u → s.kind ≡ OfTable t → u.kind ≡ OfTable v
      → triple_of c.side s.part ≡ triple_of c.side u.part
      → TablesAlike c s u t v
  pub registers : (s u : Source) (q r : RegisterCell) → ReadPart c s → ReadPart c u → s.kind ≡ OfRegister q
      → u.kind ≡ OfRegister r → triple_of c.side s.part ≡ triple_of c.side u.part
      → RegistersAlike c s.part u.part q r
  pub outputs : (t : Triple) (p q : PadCell) → In c.side.outputs t → In (output_pads c.cells) p → In (output_pads c.cells) q
      → IsEntry t p.name → IsEntry t q.name
      → FedAlike c (pad_pin p) (pad_pin q)

-- There is an output triple.
abbrev pub HasOutputs : Circuit → Type 0
HasOutputs c = (t : Triple) × In c.side.outputs t

-- No table reaches itself along connections through tables. (Each part that reaches itself in this way is a table.)
abbrev pub NoTableLoop : Circuit → Type 0
NoTableLoop c = (s u : Source) → IsReadBy c s u → Reaches (IsReadBy c) u s → ⊥

pub record IsTriplicated (c : Circuit) : Type 0 where
  pub entries : EntriesInDomain c
  pub open_pins : OpenPinsIgnored c
  pub clocks : ClocksAreClocks c
  pub own : ReadsOwnDomain c
  pub masks : TablesMask c
  pub copies : CopiesAlike c
  pub has_outputs : HasOutputs c
  pub no_loop : NoTableLoop c
