use Rattle.std.proofs.Common.{true, false, [], ◌∷◌, inl, inr, refl, sym, codes}
use Rattle.records.specs.Side.{D0}
use Rattle.fabric.specs.Image.{image_of}
use Rattle.fabric.specs.Agree.{ArcsAgree}
use Rattle.fabric_laws.proofs.Graphs.{has_graph}
use Rattle.fabric_laws.proofs.Agreeing.{agreeing}
use Rattle.circuit.specs.Cells.{SliceCell, TableCell}
use Rattle.circuit.specs.Parts.{Source, Register, table_source}
use Rattle.circuit.specs.Pins.{Pin, pin_at}
use Rattle.circuit.specs.Circuits.{Circuit}
use Rattle.circuit.specs.Tables.{Ignores}
use Rattle.circuit_examples.proofs.Tests.{no_false}
use Rattle.mini.specs.MiniA.{mini_a}
use Rattle.mini.specs.ToggleCells.{slice_at, wire_at}
use Rattle.answers.specs.Refusals.{OpenPin}
use Rattle.design_checks.specs.PinChecks.{PinsOpen}
use Rattle.design_checks.specs.RoutingChecks.{AreContested}
use Rattle.check_examples.specs.Refused.{on_toggle, circuit_with, slice_with_word, cells_with_word, second_arc_reading_d}
use Rattle.check_examples.proofs.Circuits.{g}
use Rattle.check_examples.proofs.Whole.{refused_at_drivers}
use Rattle.check_examples.proofs.Devices.{toggle_graph}
use Rattle.check_examples.proofs.SecondArc.{two_on_a, a_contested}
use Rattle.check_examples.proofs.Parts.{open_at}
use Rattle.check_examples.proofs.second_arc_comes_before_open_pin.Goals as goal

agree : ArcsAgree g (image_of g second_arc_reading_d) second_arc_reading_d
agree = (agreeing mini_a g (has_graph mini_a) (image_of g second_arc_reading_d) second_arc_reading_d).0 refl

wires_contested : AreContested g (image_of g second_arc_reading_d) two_on_a
wires_contested = a_contested second_arc_reading_d (record { from_first = refl; from_second = refl; first_fed = refl; second_fed = refl; no_output = refl; least_wire = refl; least_track = refl; next_track = refl })

abbrev circuit : Circuit
circuit = circuit_with g second_arc_reading_d (cells_with_word g 0x9717)

abbrev slice : SliceCell
slice = slice_with_word 0x9717 (slice_at g (codes "a0") D0 1)

abbrev cell : TableCell
cell = record { word = 0x9717; pins = wire_at g 1 1 (codes "A") ∷ wire_at g 1 1 (codes "B") ∷ wire_at g 1 1 (codes "C") ∷ wire_at g 1 1 (codes "D") ∷ []; out = wire_at g 1 1 (codes "F") }

abbrev table : Source
table = table_source slice 0 cell

-- the pin D of a0, and the data pin of its register
abbrev pin : Pin
pin = pin_at table.part 3 (wire_at g 1 1 (codes "D"))

abbrev input : Pin
input = pin_at (record { cell = codes "a0"; part = Register 0 }) 0 (wire_at g 1 1 (codes "F"))

heeded : Ignores table.kind 3 → ⊥
heeded same = no_false (sym (same (true ∷ true ∷ true ∷ false ∷ []) refl))

pins_open : PinsOpen circuit (OpenPin pin.ref)
pins_open = open_at circuit table pin input (inl refl) (inr (inr (inr (inl refl)))) (inr (inr (inr (inr (inl refl))))) refl refl refl heeded refl

pub returns : goal.returns
returns c = record {
  earlier = refused_at_drivers (on_toggle second_arc_reading_d) g (toggle_graph second_arc_reading_d) refl agree two_on_a wires_contested;
  cells = refl;
  later = pins_open;
}
