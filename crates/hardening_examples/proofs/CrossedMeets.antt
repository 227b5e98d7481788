-- The crossed toggle on MINI-A meets what is asked of a design before it is hardened.
use Rattle.std.proofs.Common.{◌≡◌, ℕ, Bool, true, not, ◌||◌, eqb, inl, refl}
use Rattle.std.specs.List.{list_any, list_all}
use Rattle.links.proofs.Below.{has_in, below_complete}
use Rattle.links.specs.Below.{has, below}
use Rattle.fabric.specs.Agree.{ArcsAgree}
use Rattle.fabric_laws.specs.PlainGraph.{graph_of}
use Rattle.fabric_laws.proofs.Members.{all_from, imp_from}
use Rattle.fabric_laws.proofs.Graphs.{has_graph}
use Rattle.fabric_laws.proofs.Agreeing.{agreeing}
use Rattle.circuit.specs.Parts.{Source, sources}
use Rattle.circuit.specs.Pins.{Pin, pins}
use Rattle.circuit.specs.Circuits.{Circuit}
use Rattle.circuit.specs.Triplicated.{IsTriplicated}
use Rattle.circuit.specs.WellFormed.{IsWellFormed}
use Rattle.circuit_laws.proofs.Sound.{Sound}
use Rattle.circuit_examples.proofs.Tests.{any_in, number_is}
use Rattle.circuit_examples.proofs.Formed.{well_formed}
use Rattle.circuit_examples.proofs.Rules.{EntriesPass, OpenPass, ClocksPass, OwnPass, MasksPass}
use Rattle.circuit_examples.proofs.CopyRules.{CopiesPass, triplicated}
use Rattle.mini.specs.MiniA.{mini_a}
use Rattle.mini.specs.Toggle.{crossed}
use Rattle.upset.specs.Configured.{circuit_of}
use Rattle.upset_examples.proofs.Conditions.{of_crossed, crossed_clean}
use Rattle.formed_laws.specs.Designs.{IsReadDesign}
use Rattle.formed_examples.proofs.Read.{toggle_read}
use Rattle.check_laws.specs.Accepted.{FeedsAreModelled}

abbrev circuit : Circuit
circuit = circuit_of of_crossed

-- ---- it is read, and its arcs agree

pub crossed_read : IsReadDesign mini_a of_crossed
crossed_read = record {
  profile = toggle_read.profile;
  side = toggle_read.side;
  graph = has_graph mini_a;
  outputs = toggle_read.outputs;
  cells = refl;
}

pub crossed_agrees : ArcsAgree (graph_of mini_a) of_crossed.image crossed
crossed_agrees = (agreeing mini_a (graph_of mini_a) (has_graph mini_a) of_crossed.image crossed).0 refl

-- ---- its pins are fed from named cells alone

-- an output that reaches a pin is that of a named cell
abbrev is_modelled : Circuit → Pin → ℕ → Bool
is_modelled c p o = not (has (below c.routing.links o) p.wire) || list_any (λ s. eqb s.out o) (sources c.cells)

modelled_by : (c : Circuit) → list_all (λ p. list_all (is_modelled c p) c.routing.outputs) (pins c.cells) ≡ true → FeedsAreModelled c
modelled_by c h p o i f =
    let told = all_from (is_modelled c p) c.routing.outputs (all_from (λ q. list_all (is_modelled c q) c.routing.outputs) (pins c.cells) h p i) o f.output in
    let s = any_in (λ (z : Source). eqb z.out o) (sources c.cells) (imp_from (has (below c.routing.links o) p.wire) (list_any (λ z. eqb z.out o) (sources c.cells)) told
    (has_in (below c.routing.links o) p.wire (below_complete c.routing.links f.reach))) in
    (s.0, (s.1.0, number_is s.0.out o s.1.1))

pub crossed_modelled : FeedsAreModelled circuit
crossed_modelled = modelled_by circuit refl

-- ---- it is triplicated

formed : IsWellFormed circuit
formed = well_formed circuit (record {
  names = refl;
  outputs = refl;
  triples = record { slices = refl; inputs = refl; outputs = refl; clocks = refl; paired = refl; once = refl };
  sizes = record { tables = refl; registers = refl; some_pins = refl; few_pins = refl };
})

sound : Sound circuit
sound = record { clean = crossed_clean; formed = formed }

entries : EntriesPass circuit
entries = record { first = refl; second = refl; third = refl }

open_pins : OpenPass circuit
open_pins = record { parts = refl; pads = refl }

clocks : ClocksPass circuit sound
clocks = record { parts = refl; pads = refl; clocked = refl }

own : OwnPass circuit sound
own = record { parts = refl; pads = refl }

masks : MasksPass circuit sound
masks = record { zero = refl; one = refl; two = refl }

copies : CopiesPass circuit sound
copies = record { parts = refl; pads = refl }

pub crossed_triplicated : IsTriplicated circuit
crossed_triplicated = triplicated circuit sound (record { entries = entries; open_pins = open_pins; clocks = clocks; own = own; masks = masks; copies = copies; flat = refl }) _ (inl refl)
