-- The toggle on MINI-A meets all that masking asks for.
use Rattle.std.proofs.Common.{inl, refl}
use Rattle.circuit.specs.Circuits.{Circuit}
use Rattle.circuit.specs.Faults.{Fault}
use Rattle.circuit.specs.Right.{TwoAreRight}
use Rattle.circuit.specs.Triplicated.{IsTriplicated}
use Rattle.circuit.specs.WellFormed.{IsWellFormed}
use Rattle.circuit_laws.proofs.Sound.{Sound}
use Rattle.circuit_examples.proofs.Formed.{well_formed}
use Rattle.circuit_examples.proofs.Rules.{EntriesPass, OpenPass, ClocksPass, OwnPass, MasksPass}
use Rattle.circuit_examples.proofs.CopyRules.{CopiesPass, triplicated}
use Rattle.upset.specs.Configured.{circuit_of}
use Rattle.upset.specs.Safe.{IsMuxFault}
use Rattle.upset_laws.proofs.Masked.{mux_bits_masked}
use Rattle.upset_examples.proofs.Conditions.{of_toggle, toggle_clean, toggle_safe}

abbrev circuit : Circuit
circuit = circuit_of of_toggle

pub toggle_formed : IsWellFormed circuit
toggle_formed = well_formed circuit (record {
  names = refl;
  outputs = refl;
  triples = record { slices = refl; inputs = refl; outputs = refl; clocks = refl; paired = refl; once = refl };
  sizes = record { tables = refl; registers = refl; some_pins = refl; few_pins = refl };
})

sound : Sound circuit
sound = record { clean = toggle_clean; formed = toggle_formed }

entries : EntriesPass circuit
entries = record { first = refl; second = refl; third = refl }

open_pins : OpenPass circuit
open_pins = record { parts = refl; pads = refl }

clocks : ClocksPass circuit sound
clocks = record { parts = refl; pads = refl; clocked = refl }

own : OwnPass circuit sound
own = record { parts = refl; pads = refl }

masks : MasksPass circuit sound
masks = record { zero = refl; one = refl; two = refl }

copies : CopiesPass circuit sound
copies = record { parts = refl; pads = refl }

pub toggle_triplicated : IsTriplicated circuit
toggle_triplicated = triplicated circuit sound (record { entries = entries; open_pins = open_pins; clocks = clocks; own = own; masks = masks; copies = copies; flat = refl }) _ (inl refl)

pub toggle_masked : (f : Fault) → IsMuxFault of_toggle f → TwoAreRight circuit f
toggle_masked f m = (mux_bits_masked of_toggle toggle_clean toggle_formed toggle_triplicated toggle_safe f m).1
