-- The corridor on MINI-B meets all that masking asks for.
use Rattle.std.proofs.Common.{ℕ, cond, codes, inl, refl}
use Rattle.std.specs.Prelude.{nat_eq}
use Rattle.std.specs.List.{starts_with}
use Rattle.circuit.specs.Parts.{PartRef, Kind, OfTable, Source}
use Rattle.circuit.specs.Circuits.{Circuit}
use Rattle.circuit.specs.Triplicated.{IsTriplicated}
use Rattle.circuit.specs.WellFormed.{IsWellFormed}
use Rattle.circuit_laws.proofs.Sound.{Sound}
use Rattle.circuit_examples.proofs.Formed.{well_formed}
use Rattle.circuit_examples.proofs.Ranks.{loopless}
use Rattle.circuit_examples.proofs.Rules.{EntriesPass, entries, OpenPass, open_pins, ClocksPass, clocks, OwnPass, own, MasksPass, masks}
use Rattle.circuit_examples.proofs.CopyRules.{CopiesPass, copies}
use Rattle.route_examples.specs.Corridors.{read}
use Rattle.route_examples.proofs.Answered.{told}
use Rattle.route_examples.proofs.Conditions.{g}

abbrev circuit : Circuit
circuit = read g

pub corridor_formed : IsWellFormed circuit
corridor_formed = well_formed circuit (record {
  names = refl;
  outputs = refl;
  triples = record { slices = refl; inputs = refl; outputs = refl; clocks = refl; paired = refl; once = refl };
  sizes = record { tables = refl; registers = refl; some_pins = refl; few_pins = refl };
})

sound : Sound circuit
sound = record { clean = told.clean; formed = corridor_formed }

entries_pass : EntriesPass circuit
entries_pass = record { first = refl; second = refl; third = refl }

open_pass : OpenPass circuit
open_pass = record { parts = refl; pads = refl }

clocks_pass : ClocksPass circuit sound
clocks_pass = record { parts = refl; pads = refl; clocked = refl }

own_pass : OwnPass circuit sound
own_pass = record { parts = refl; pads = refl }

masks_pass : MasksPass circuit sound
masks_pass = record { zero = refl; one = refl; two = refl }

copies_pass : CopiesPass circuit sound
copies_pass = record { parts = refl; pads = refl }

-- pads come first, then tables that read pads, then the slices w, which read tables
abbrev rank_of : PartRef → Kind → ℕ
rank_of part (OfTable t) = cond (starts_with nat_eq part.cell (codes "w")) 2 1
rank_of part _ = 0

abbrev rank : Source → ℕ
rank s = rank_of s.part s.kind

pub corridor_triplicated : IsTriplicated circuit
corridor_triplicated = record {
  entries = entries circuit entries_pass;
  open_pins = open_pins circuit open_pass;
  clocks = clocks circuit sound clocks_pass;
  own = own circuit sound own_pass;
  masks = masks circuit sound masks_pass;
  copies = copies circuit sound copies_pass;
  has_outputs = (_, inl refl);
  no_loop = loopless circuit rank refl;
}
