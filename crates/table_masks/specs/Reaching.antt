-- That a table doesn't mask another domain, whether it is read or not. (After majority voting.)
use Rattle.std.specs.Prelude.{◌≡◌, ◌≢◌, ℕ, Bool, map}
use Rattle.records.specs.Side.{Domain}
use Rattle.circuit.specs.Cells.{TableCell}
use Rattle.circuit.specs.Parts.{Source, OfTable}
use Rattle.circuit.specs.Pins.{Pin, table_pins}
use Rattle.circuit.specs.Triples.{PartTriple}
use Rattle.circuit.specs.Circuits.{Circuit}
use Rattle.circuit.specs.Worlds.{address, table_output}
use Rattle.circuit.specs.Tables.{Assigned, SameBitsBut}
use Rattle.design_checks.specs.MaskChecks.{OpenAreZero}

-- From an assignment of bits to the triples that feed the table, the pins fed from one other domain lead to this address, where
-- the output is another one.
pub record Reaching (c : Circuit) (s : Source) (t : TableCell) (reached : ℕ) : Type 0 where
  pub other : Domain
  pub foreign : other ≢ s.domain
  pub bits : PartTriple → Bool
  pub before : Pin → Bool
  pub after : Pin → Bool
  pub assigned : Assigned c bits s t before
  pub same : SameBitsBut c other s t before after
  pub open_pins : OpenAreZero c s t after
  pub at : address (map after (table_pins s.part t)) ≡ reached
  pub differs : table_output s.part t before ≢ table_output s.part t after

-- the part is a table of which this holds
abbrev pub TableReaches : Circuit → Source → ℕ → Type 0
TableReaches c s reached = (t : TableCell) × ((s.kind ≡ OfTable t) × Reaching c s t reached)
