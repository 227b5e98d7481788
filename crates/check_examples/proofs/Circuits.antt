-- The toggle with a fault has a clean routing and well-formed cells, and what feeds its pins.
use Rattle.std.proofs.Common.{refl}
use Rattle.fabric.specs.Graph.{Graph}
use Rattle.fabric.specs.Image.{image_of}
use Rattle.fabric_laws.specs.PlainGraph.{graph_of}
use Rattle.fabric_laws.proofs.Graphs.{has_graph}
use Rattle.fabric_laws.proofs.Agreeing.{agreeing}
use Rattle.fabric_examples.proofs.Tests.{clean_once}
use Rattle.mini.specs.MiniA.{mini_a}
use Rattle.mini.specs.ToggleCells.{toggle_cells}
use Rattle.circuit.specs.Circuits.{Circuit}
use Rattle.circuit_laws.proofs.Sound.{Sound}
use Rattle.circuit_examples.proofs.Formed.{well_formed}
use Rattle.check_examples.proofs.Whole.{TextPasses}
use Rattle.check_examples.specs.Refused.{on_toggle, circuit_with, cells_with_word, unmasked, reading_d, unclocked}

abbrev pub g : Graph
g = graph_of mini_a

abbrev pub unmasked_circuit : Circuit
unmasked_circuit = circuit_with g unmasked (cells_with_word g 0x1F1F)

abbrev pub reading_circuit : Circuit
reading_circuit = circuit_with g reading_d (cells_with_word g 0x9717)

abbrev pub unclocked_circuit : Circuit
unclocked_circuit = circuit_with g unclocked (toggle_cells g)

pub unmasked_sound : Sound unmasked_circuit
unmasked_sound = record {
  clean = clean_once unmasked_circuit.routing refl;
  formed = well_formed unmasked_circuit (record {
    names = refl;
    outputs = refl;
    triples = record { slices = refl; inputs = refl; outputs = refl; clocks = refl; paired = refl; once = refl };
    sizes = record { tables = refl; registers = refl; some_pins = refl; few_pins = refl };
  });
}

pub reading_sound : Sound reading_circuit
reading_sound = record {
  clean = clean_once reading_circuit.routing refl;
  formed = well_formed reading_circuit (record {
    names = refl;
    outputs = refl;
    triples = record { slices = refl; inputs = refl; outputs = refl; clocks = refl; paired = refl; once = refl };
    sizes = record { tables = refl; registers = refl; some_pins = refl; few_pins = refl };
  });
}

pub unclocked_sound : Sound unclocked_circuit
unclocked_sound = record {
  clean = clean_once unclocked_circuit.routing refl;
  formed = well_formed unclocked_circuit (record {
    names = refl;
    outputs = refl;
    triples = record { slices = refl; inputs = refl; outputs = refl; clocks = refl; paired = refl; once = refl };
    sizes = record { tables = refl; registers = refl; some_pins = refl; few_pins = refl };
  });
}

pub unmasked_text : TextPasses (on_toggle unmasked) g
unmasked_text = record { lines = refl; agree = (agreeing mini_a g (has_graph mini_a) (image_of g unmasked) unmasked).0 refl; clean = unmasked_sound.clean; no_cell = refl }

pub reading_text : TextPasses (on_toggle reading_d) g
reading_text = record { lines = refl; agree = (agreeing mini_a g (has_graph mini_a) (image_of g reading_d) reading_d).0 refl; clean = reading_sound.clean; no_cell = refl }

pub unclocked_text : TextPasses (on_toggle unclocked) g
unclocked_text = record { lines = refl; agree = (agreeing mini_a g (has_graph mini_a) (image_of g unclocked) unclocked).0 refl; clean = unclocked_sound.clean; no_cell = refl }
