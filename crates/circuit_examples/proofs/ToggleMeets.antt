-- The toggle is triplicated.
use Rattle.std.proofs.Common.{ℕ, refl, inl}
use Rattle.circuit.specs.Triplicated.{IsTriplicated}
use Rattle.circuit_laws.proofs.Sound.{Sound}
use Rattle.circuit_examples.specs.Toggle.{inverted_majority, toggle_with, toggle}
use Rattle.circuit_examples.proofs.ToggleFormed.{toggle_clean, toggle_formed}
use Rattle.circuit_examples.proofs.Rules.{EntriesPass, OpenPass, ClocksPass, OwnPass, MasksPass}
use Rattle.circuit_examples.proofs.CopyRules.{CopiesPass, triplicated}

pub toggle_sound : (word : ℕ) → Sound (toggle_with word)
toggle_sound word = record { clean = toggle_clean word; formed = toggle_formed word }

abbrev sound : Sound toggle
sound = toggle_sound inverted_majority

entries : EntriesPass toggle
entries = record { first = refl; second = refl; third = refl }

open_pins : OpenPass toggle
open_pins = record { parts = refl; pads = refl }

clocks : ClocksPass toggle sound
clocks = record { parts = refl; pads = refl; clocked = refl }

own : OwnPass toggle sound
own = record { parts = refl; pads = refl }

masks : MasksPass toggle sound
masks = record { zero = refl; one = refl; two = refl }

copies : CopiesPass toggle sound
copies = record { parts = refl; pads = refl }

pub toggle_triplicated : IsTriplicated toggle
toggle_triplicated = triplicated toggle sound (record { entries = entries; open_pins = open_pins; clocks = clocks; own = own; masks = masks; copies = copies; flat = refl }) _ (inl refl)
