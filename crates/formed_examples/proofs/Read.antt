-- The toggle on MINI-A is a design that is read.
use Rattle.std.proofs.Common.{◌≡◌, ℕ, Bool, true, false, not, ◌&&◌, List, [], ◌∷◌, refl}
use Rattle.std.proofs.lemmas.Bool.{false≢true, and_parts}
use Rattle.words.specs.Twice.{HasNoneTwice}
use Rattle.links.proofs.Below.{has_in}
use Rattle.fabric.specs.GraphOf.{outputs_of}
use Rattle.circuit.specs.Faults.{Fault}
use Rattle.circuit.specs.Right.{RightOutside, TwoAreRight}
use Rattle.records.specs.Side.{Domain}
use Rattle.links.specs.Below.{has}
use Rattle.fabric_laws.specs.PlainGraph.{graph_of}
use Rattle.fabric_laws.proofs.Graphs.{has_graph}
use Rattle.mini.specs.MiniA.{mini_a}
use Rattle.upset.specs.Configured.{circuit_of}
use Rattle.upset.specs.Safe.{IsMuxFault}
use Rattle.upset_examples.proofs.Conditions.{of_toggle, toggle_clean, toggle_safe}
use Rattle.upset_examples.proofs.ToggleMeets.{toggle_triplicated}
use Rattle.formed_laws.specs.Designs.{NoOverlap, IsReadDesign}
use Rattle.formed_laws.proofs.Formed.{read_mux_bits_masked}
use Rattle.formed_examples.proofs.Texts.{profile_read, side_read}

-- no number of a list stands behind itself
abbrev pub none_again : List ℕ → Bool
none_again [] = true
none_again (x ∷ xs) = not (has xs x) && none_again xs

not_both : (b : Bool) → not b ≡ true → b ≡ true → ⊥
not_both true h e = false≢true h
not_both false h e = false≢true e

pub none_twice : (xs : List ℕ) → none_again xs ≡ true → HasNoneTwice xs
none_twice [] h = tt
none_twice (x ∷ xs) h =
    let parts = and_parts (not (has xs x)) (none_again xs) h in
    ((λ i. not_both (has xs x) parts.0 (has_in xs x i)), none_twice xs parts.1)

no_overlap : NoOverlap mini_a (graph_of mini_a)
no_overlap = none_twice (outputs_of mini_a (graph_of mini_a).wires) refl

pub toggle_read : IsReadDesign mini_a of_toggle
toggle_read = record {
  profile = profile_read;
  side = side_read;
  graph = has_graph mini_a;
  outputs = no_overlap;
  cells = refl;
}

pub toggle_masked : (f : Fault) → IsMuxFault of_toggle f → ((d : Domain) × RightOutside (circuit_of of_toggle) f d) × TwoAreRight (circuit_of of_toggle) f
toggle_masked = read_mux_bits_masked mini_a of_toggle toggle_read toggle_clean toggle_triplicated toggle_safe
