-- What is asked of tables in a triplicated circuit. (After majority voting.)
use Rattle.std.specs.Prelude.{◌≡◌, ◌≢◌, ℕ, Bool, true, false, List, length, slice_set}
use Rattle.words.specs.Members.{In}
use Rattle.records.specs.Side.{Domain}
use Rattle.circuit.specs.Cells.{TableCell}
use Rattle.circuit.specs.Parts.{Kind, OfTable, OfRegister, OfInput, OfClock, Source}
use Rattle.circuit.specs.Pins.{Pin, table_pins}
use Rattle.circuit.specs.Triples.{PartTriple, triple_of}
use Rattle.circuit.specs.Circuits.{Circuit, Connects}
use Rattle.circuit.specs.Domains.{HasDomain}
use Rattle.circuit.specs.Worlds.{word_bit, table_output}

-- The output of a table is the same for both bits at this pin, whatever stands at the others. No other part
-- ignores a pin.
abbrev pub Ignores : Kind → ℕ → Type 0
Ignores (OfTable t) n = (bits : List Bool) → length bits ≡ length t.pins → word_bit t.word (slice_set bits n true) ≡ word_bit t.word (slice_set bits n false)
Ignores (OfRegister r) n = ⊥
Ignores OfInput n = ⊥
Ignores OfClock n = ⊥

-- an assignment gives each pin of a table that a part feeds the bit of that part's triple
abbrev pub Assigned : Circuit → (PartTriple → Bool) → Source → TableCell → (Pin → Bool) → Type 0
Assigned c bits s t x = (p : Pin) (a : Source) → In (table_pins s.part t) p → Connects c a p → x p ≡ bits (triple_of c.side a.part)

-- the same bits but at pins fed from a domain
abbrev pub SameBitsBut : Circuit → Domain → Source → TableCell → (Pin → Bool) → (Pin → Bool) → Type 0
SameBitsBut c e s t x y = (p : Pin) → In (table_pins s.part t) p → (HasDomain c p.wire e → ⊥) → x p ≡ y p

-- For each assignment of bits to the triples that feed the table and each domain other than its own, the output
-- stays when the pins fed from that domain take any bits.
abbrev pub Masks : Circuit → Source → TableCell → Type 0
Masks c s t = (e : Domain) (bits : PartTriple → Bool) (x y : Pin → Bool) → e ≢ s.domain → Assigned c bits s t x → SameBitsBut c e s t x y
    → table_output s.part t x ≡ table_output s.part t y

-- two tables give equal outputs for each assignment of bits to the triples that feed them
abbrev pub TablesAlike : Circuit → Source → Source → TableCell → TableCell → Type 0
TablesAlike c s u t v = (bits : PartTriple → Bool) (x y : Pin → Bool) → Assigned c bits s t x → Assigned c bits u v y
    → table_output s.part t x ≡ table_output u.part v y
