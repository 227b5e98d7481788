use Rattle.std.proofs.Common.{true, false, [], ◌∷◌, inl, inr, refl, sym, codes}
use Rattle.records.specs.Side.{D0}
use Rattle.circuit.specs.Cells.{SliceCell, TableCell}
use Rattle.circuit.specs.Parts.{Source, Register, table_source}
use Rattle.circuit.specs.Pins.{Pin, pin_at}
use Rattle.circuit.specs.Tables.{Ignores}
use Rattle.circuit_examples.proofs.Tests.{no_false}
use Rattle.mini.specs.ToggleCells.{slice_at, wire_at}
use Rattle.design_checks.specs.PinChecks.{PinsOpen}
use Rattle.check_examples.specs.Refused.{on_toggle, slice_with_word, cells_with_word, reading_d}
use Rattle.check_examples.proofs.Circuits.{g, reading_circuit, reading_text}
use Rattle.answers.specs.Refusals.{OpenPin}
use Rattle.check_examples.proofs.Whole.{refused_in_circuit, refused_at_open, named_pass, loops_pass}
use Rattle.check_examples.proofs.Parts.{open_at}
use Rattle.check_examples.proofs.Devices.{toggle_graph}
use Rattle.check_examples.proofs.open_pin_is_refused.Goals as goal

abbrev slice : SliceCell
slice = slice_with_word 0x9717 (slice_at g (codes "a0") D0 1)

abbrev cell : TableCell
cell = record { word = 0x9717; pins = wire_at g 1 1 (codes "A") ∷ wire_at g 1 1 (codes "B") ∷ wire_at g 1 1 (codes "C") ∷ wire_at g 1 1 (codes "D") ∷ []; out = wire_at g 1 1 (codes "F") }

abbrev table : Source
table = table_source slice 0 cell

-- the pin D of a0, and the data pin of its register
abbrev pin : Pin
pin = pin_at table.part 3 (wire_at g 1 1 (codes "D"))

abbrev input : Pin
input = pin_at (record { cell = codes "a0"; part = Register 0 }) 0 (wire_at g 1 1 (codes "F"))

heeded : Ignores table.kind 3 → ⊥
heeded same = no_false (sym (same (true ∷ true ∷ true ∷ false ∷ []) refl))

pins_open : PinsOpen reading_circuit (OpenPin pin.ref)
pins_open = open_at reading_circuit table pin input (inl refl) (inr (inr (inr (inl refl)))) (inr (inr (inr (inr (inl refl))))) refl refl refl heeded refl

pub returns : goal.returns
returns c = record {
  cells = refl;
  refused = pins_open;
  first = refused_in_circuit (on_toggle reading_d) g (toggle_graph reading_d) (cells_with_word g 0x9717) reading_text refl (OpenPin pin.ref)
      (refused_at_open reading_circuit g (named_pass reading_circuit g refl) (loops_pass reading_circuit refl) (OpenPin pin.ref) pins_open);
}
