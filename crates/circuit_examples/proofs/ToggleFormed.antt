-- The toggle's routing is clean and its cells are well formed.
use Rattle.std.proofs.Common.{ℕ, refl}
use Rattle.links.specs.Links.{IsClean}
use Rattle.circuit.specs.WellFormed.{IsWellFormed}
use Rattle.circuit_examples.specs.Toggle.{toggle_with}
use Rattle.circuit_examples.proofs.Feeding.{tree_clean}
use Rattle.circuit_examples.proofs.Formed.{well_formed}

pub toggle_clean : (word : ℕ) → IsClean (toggle_with word).routing
toggle_clean word = tree_clean (toggle_with word).routing refl

pub toggle_formed : (word : ℕ) → IsWellFormed (toggle_with word)
toggle_formed word = well_formed (toggle_with word) (record {
  names = refl;
  outputs = refl;
  triples = record { slices = refl; inputs = refl; outputs = refl; clocks = refl; paired = refl; once = refl };
  sizes = record { tables = refl; registers = refl; some_pins = refl; few_pins = refl };
})
