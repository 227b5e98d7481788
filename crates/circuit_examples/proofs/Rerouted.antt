-- The toggle on other wires is of one design with the toggle.
use Rattle.std.proofs.Common.{◌≡◌, Bool, true, refl, inl, sym, ◌∙◌}
use Rattle.std.specs.List.{list_all}
use Rattle.words.specs.Members.{In}
use Rattle.links.specs.Links.{Routing}
use Rattle.records.specs.Side.{Side}
use Rattle.circuit.specs.Cells.{Cells}
use Rattle.circuit.specs.Parts.{Source, sources}
use Rattle.circuit.specs.Pins.{Pin, pins}
use Rattle.circuit.specs.Circuits.{Circuit, Connection, IsConnection}
use Rattle.circuit.specs.Designs.{SameDesign}
use Rattle.circuit.specs.Triplicated.{IsTriplicated}
use Rattle.circuit_laws.proofs.Sound.{Sound, at_pin, to_pin}
use Rattle.circuit_examples.specs.Toggle.{inverted_majority, toggle, toggle_rerouted}
use Rattle.circuit_examples.proofs.Tests.{all_in, same_bit, bits_equal}
use Rattle.circuit_examples.proofs.Feeding.{feeds, feeds_is, is_feeds, tree_clean}
use Rattle.circuit_examples.proofs.Formed.{well_formed}
use Rattle.circuit_examples.proofs.Rules.{EntriesPass, OpenPass, ClocksPass, OwnPass, MasksPass}
use Rattle.circuit_examples.proofs.CopyRules.{CopiesPass, triplicated}
use Rattle.circuit_examples.proofs.ToggleMeets.{toggle_sound}

abbrev pub rerouted_sound : Sound toggle_rerouted
rerouted_sound = record {
  clean = tree_clean toggle_rerouted.routing refl;
  formed = well_formed toggle_rerouted (record {
    names = refl;
    outputs = refl;
    triples = record { slices = refl; inputs = refl; outputs = refl; clocks = refl; paired = refl; once = refl };
    sizes = record { tables = refl; registers = refl; some_pins = refl; few_pins = refl };
  });
}

entries : EntriesPass toggle_rerouted
entries = record { first = refl; second = refl; third = refl }

open_pins : OpenPass toggle_rerouted
open_pins = record { parts = refl; pads = refl }

clocks : ClocksPass toggle_rerouted rerouted_sound
clocks = record { parts = refl; pads = refl; clocked = refl }

own : OwnPass toggle_rerouted rerouted_sound
own = record { parts = refl; pads = refl }

masks : MasksPass toggle_rerouted rerouted_sound
masks = record { zero = refl; one = refl; two = refl }

copies : CopiesPass toggle_rerouted rerouted_sound
copies = record { parts = refl; pads = refl }

pub rerouted_triplicated : IsTriplicated toggle_rerouted
rerouted_triplicated = triplicated toggle_rerouted rerouted_sound (record { entries = entries; open_pins = open_pins; clocks = clocks; own = own; masks = masks; copies = copies; flat = refl }) _ (inl refl)

-- two circuits of the same cells, in which each part reaches the same pins
module _ (cells : Cells) (side : Side) (r z : Routing) where
  abbrev one : Circuit
  one = record { routing = r; cells = cells; side = side }

  abbrev other : Circuit
  other = record { routing = z; cells = cells; side = side }

  abbrev alike : Source → Pin → Bool
  alike s p = same_bit (feeds one s p.wire) (feeds other s p.wire)

  abbrev pub all_alike : Bool
  all_alike = list_all (λ s. list_all (alike s) (pins cells)) (sources cells)

  alike_at : all_alike ≡ true → (s : Source) (p : Pin) → In (sources cells) s → In (pins cells) p → feeds one s p.wire ≡ feeds other s p.wire
  alike_at e s p i j = bits_equal (feeds one s p.wire) (feeds other s p.wire) (all_in (alike s) (pins cells) p (all_in (λ y. list_all (alike y) (pins cells)) (sources cells) s e i) j)

  there : Sound other → all_alike ≡ true → (x : Connection) → IsConnection one x → IsConnection other x
  there ok e x h =
      let s = h.source in
      let p = h.pin in
      let reached = sym (alike_at e s p h.connects.source h.connects.pin) ∙ is_feeds one s p.wire (at_pin one s p h.connects) in record {
        source = s;
        pin = p;
        connects = to_pin other s p h.connects.pin (feeds_is other ok.formed.outputs.listed s p.wire h.connects.source reached);
        from = h.from;
        to = h.to;
      }

  back : Sound one → all_alike ≡ true → (x : Connection) → IsConnection other x → IsConnection one x
  back ok e x h =
      let s = h.source in
      let p = h.pin in
      let reached = alike_at e s p h.connects.source h.connects.pin ∙ is_feeds other s p.wire (at_pin other s p h.connects) in record {
        source = s;
        pin = p;
        connects = to_pin one s p h.connects.pin (feeds_is one ok.formed.outputs.listed s p.wire h.connects.source reached);
        from = h.from;
        to = h.to;
      }

  pub one_design : Sound one → Sound other → all_alike ≡ true → SameDesign one other
  one_design a b e = record {
    sides = record { slices = refl; pads = refl; triples = refl; inputs = refl; outputs = refl; clocks = refl; voters = refl };
    parts = refl;
    connections = λ x. (there b e x, back a e x);
  }

pub rerouted_same : SameDesign toggle toggle_rerouted
rerouted_same = one_design toggle.cells toggle.side toggle.routing toggle_rerouted.routing (toggle_sound inverted_majority) rerouted_sound refl
