use Rattle.std.proofs.Common.{ℕ, pos, inl, inr, refl, codes}
use Rattle.circuit.specs.Parts.{Table}
use Rattle.circuit.specs.Pins.{Pin, pin_at}
use Rattle.circuit.specs.Circuits.{Circuit}
use Rattle.fabric.specs.Graph.{Graph}
use Rattle.fabric.specs.Wires.{Wire, Local}
use Rattle.fabric.specs.Image.{image_of}
use Rattle.fabric_laws.specs.PlainGraph.{graph_of}
use Rattle.fabric_laws.proofs.Graphs.{has_graph}
use Rattle.fabric_laws.proofs.Agreeing.{agreeing}
use Rattle.fabric_examples.proofs.Tests.{clean_once}
use Rattle.mini.specs.ToggleCells.{wire_at}
use Rattle.mini_b.specs.MiniB.{mini_b}
use Rattle.mini_b.specs.Corridor.{corridor}
use Rattle.design_checks.specs.PinChecks.{SourceUnnamed}
use Rattle.answers.specs.Refusals.{UnnamedSource}
use Rattle.check_examples.specs.CorridorRefused.{on_corridor, side_without_u, cells_without_u, unnamed_circuit}
use Rattle.check_examples.proofs.Loops.{unnamed_at}
use Rattle.check_examples.proofs.Whole.{TextPasses, refused_in_circuit, refused_at_sources}
use Rattle.check_examples.proofs.Devices.{corridor_graph}
use Rattle.check_examples.proofs.ReadCorridors.{unnamed_read}
use Rattle.check_examples.proofs.unnamed_source_is_refused.Goals as goal

abbrev g : Graph
g = graph_of mini_b

abbrev circuit : Circuit
circuit = unnamed_circuit g

-- the pin of w0, and the output of the slice in the first column
abbrev pin : Pin
pin = pin_at (record { cell = codes "w0"; part = Table 0 }) 0 (wire_at g 1 3 (codes "D"))

abbrev output : ℕ
output = wire_at g 1 1 (codes "F")

abbrev unnamed_output : Wire
unnamed_output = Local (pos 1) (pos 1) (codes "F")

source_unnamed : SourceUnnamed g circuit (UnnamedSource pin.ref unnamed_output)
source_unnamed = unnamed_at circuit g pin output unnamed_output (inr (inr (inr (inl refl)))) refl refl refl refl

text_passes : TextPasses (on_corridor corridor side_without_u) g
text_passes = record { lines = refl; agree = (agreeing mini_b g (has_graph mini_b) (image_of g corridor) corridor).0 refl; clean = clean_once circuit.routing refl; no_cell = refl }

pub returns : goal.returns
returns c = record {
  refused = source_unnamed;
  first = refused_in_circuit (on_corridor corridor side_without_u) g (corridor_graph corridor side_without_u) (cells_without_u g) text_passes unnamed_read (UnnamedSource pin.ref unnamed_output)
      (refused_at_sources circuit g (UnnamedSource pin.ref unnamed_output) source_unnamed);
}
