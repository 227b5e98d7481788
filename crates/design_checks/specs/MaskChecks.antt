-- Tables whose output one other domain changes. (After majority voting; what is named is our own.)
use Rattle.std.specs.Prelude.{◌≡◌, ◌≢◌, ℕ, Bool, false, map}
use Rattle.std.specs.Ordering.{nat_cmp}
use Rattle.words.specs.Members.{In}
use Rattle.records.specs.Side.{Domain}
use Rattle.links.specs.Links.{Fed}
use Rattle.circuit.specs.Cells.{TableCell}
use Rattle.circuit.specs.Parts.{PartRef, Source, OfTable}
use Rattle.circuit.specs.Pins.{Pin, table_pins}
use Rattle.circuit.specs.Triples.{PartTriple}
use Rattle.circuit.specs.Circuits.{Circuit}
use Rattle.circuit.specs.Worlds.{address, table_output}
use Rattle.circuit.specs.Tables.{Assigned, SameBitsBut}
use Rattle.circuit.specs.Triplicated.{ReadPart}
use Rattle.answers.specs.Refusals.{Refusal, NotMasking}
use Rattle.attempts.specs.PinOrder.{part_cmp}
use Rattle.design_checks.specs.Checks.{IsLeast}

-- pins of a table without a feed count as 0
abbrev pub OpenAreZero : Circuit → Source → TableCell → (Pin → Bool) → Type 0
OpenAreZero c s t bits = (p : Pin) → In (table_pins s.part t) p → (Fed c.routing p.wire → ⊥) → bits p ≡ false

-- A read table doesn't mask a domain: from an assignment of bits to the triples that feed it, the pins fed from one
-- other domain lead to this address, where the output is another one.
pub record FailsAt (c : Circuit) (part : PartRef) (reached : ℕ) : Type 0 where
  pub source : Source
  pub table : TableCell
  pub is : source.part ≡ part
  pub read : ReadPart c source
  pub is_table : source.kind ≡ OfTable table
  pub other : Domain
  pub foreign : other ≢ source.domain
  pub bits : PartTriple → Bool
  pub before : Pin → Bool
  pub after : Pin → Bool
  pub assigned : Assigned c bits source table before
  pub same : SameBitsBut c other source table before after
  pub open_pins : OpenAreZero c source table after
  pub at : address (map after (table_pins source.part table)) ≡ reached
  pub differs : table_output source.part table before ≢ table_output source.part table after

-- 34: the least table that fails, with the least address at which it does
pub data TablesFail (c : Circuit) : Refusal → Type 0 where
  fails : (part : PartRef) (reached : ℕ) → IsLeast part_cmp (λ p. (n : ℕ) × FailsAt c p n) part → IsLeast nat_cmp (FailsAt c part) reached
      → TablesFail c (NotMasking part reached)
