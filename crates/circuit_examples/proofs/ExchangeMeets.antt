-- Copies with exchanged pins are clean, well formed and triplicated.
use Rattle.std.proofs.Common.{ℕ, refl, inl}
use Rattle.circuit.specs.Triplicated.{IsTriplicated}
use Rattle.circuit_laws.proofs.Sound.{Sound}
use Rattle.circuit_examples.specs.Exchange.{exchange_with, exchange}
use Rattle.circuit_examples.proofs.Feeding.{tree_clean}
use Rattle.circuit_examples.proofs.Formed.{well_formed}
use Rattle.circuit_examples.proofs.Rules.{EntriesPass, OpenPass, ClocksPass, OwnPass, MasksPass}
use Rattle.circuit_examples.proofs.CopyRules.{CopiesPass, triplicated}

pub exchange_sound : (word : ℕ) → Sound (exchange_with word)
exchange_sound word = record {
  clean = tree_clean (exchange_with word).routing refl;
  formed = well_formed (exchange_with word) (record {
    names = refl;
    outputs = refl;
    triples = record { slices = refl; inputs = refl; outputs = refl; clocks = refl; paired = refl; once = refl };
    sizes = record { tables = refl; registers = refl; some_pins = refl; few_pins = refl };
  });
}

abbrev sound : Sound exchange
sound = exchange_sound 0x2222

entries : EntriesPass exchange
entries = record { first = refl; second = refl; third = refl }

open_pins : OpenPass exchange
open_pins = record { parts = refl; pads = refl }

clocks : ClocksPass exchange sound
clocks = record { parts = refl; pads = refl; clocked = refl }

own : OwnPass exchange sound
own = record { parts = refl; pads = refl }

masks : MasksPass exchange sound
masks = record { zero = refl; one = refl; two = refl }

copies : CopiesPass exchange sound
copies = record { parts = refl; pads = refl }

pub exchange_triplicated : IsTriplicated exchange
exchange_triplicated = triplicated exchange sound (record { entries = entries; open_pins = open_pins; clocks = clocks; own = own; masks = masks; copies = copies; flat = refl }) _ (inl refl)
