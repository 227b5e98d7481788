-- The circuits of the examples meet the conditions of the laws.
use Rattle.std.proofs.Common.{◌≡◌, true, refl}
use Rattle.std.specs.List.{list_all}
use Rattle.links.specs.Links.{IsClean}
use Rattle.links.proofs.Below.{in_has}
use Rattle.links.specs.Below.{has}
use Rattle.fabric.specs.Links.{routing_of}
use Rattle.circuit.specs.Parts.{sources}
use Rattle.fabric_laws.specs.PlainGraph.{graph_of}
use Rattle.fabric_laws.proofs.Members.{all_from}
use Rattle.fabric_laws.proofs.Graphs.{has_graph}
use Rattle.mini.specs.MiniA.{mini_a}
use Rattle.mini.specs.Toggle.{toggle, crossed}
use Rattle.fabric_examples.proofs.Tests.{clean_once}
use Rattle.upset.specs.Configured.{Configured}
use Rattle.upset.specs.Safe.{IsBad, IsSafe}
use Rattle.upset_laws.specs.PlainUpset.{OutputsListed}
use Rattle.upset_laws.proofs.PlainDomains.{safe_law, bad_law}
use Rattle.upset_examples.specs.Circuits.{with_toggle, with_slices, three_arcs, flip}

outputs_listed : (k : Configured) → list_all (λ s. has k.graph.outputs s.out) (sources k.cells) ≡ true → OutputsListed k
outputs_listed k h s i = in_has k.graph.outputs s.out (all_from (λ x. has k.graph.outputs x.out) (sources k.cells) h s i)

abbrev pub of_toggle : Configured
of_toggle = with_toggle (graph_of mini_a) toggle

abbrev pub of_crossed : Configured
of_crossed = with_toggle (graph_of mini_a) crossed

abbrev pub of_three : Configured
of_three = with_slices (graph_of mini_a) three_arcs

pub toggle_clean : IsClean (routing_of (graph_of mini_a) of_toggle.image)
toggle_clean = clean_once (routing_of (graph_of mini_a) of_toggle.image) refl

pub crossed_clean : IsClean (routing_of (graph_of mini_a) of_crossed.image)
crossed_clean = clean_once (routing_of (graph_of mini_a) of_crossed.image) refl

pub three_clean : IsClean (routing_of (graph_of mini_a) of_three.image)
three_clean = clean_once (routing_of (graph_of mini_a) of_three.image) refl

pub toggle_outputs : OutputsListed of_toggle
toggle_outputs = outputs_listed of_toggle refl

pub crossed_outputs : OutputsListed of_crossed
crossed_outputs = outputs_listed of_crossed refl

pub three_outputs : OutputsListed of_three
three_outputs = outputs_listed of_three refl

pub toggle_safe : IsSafe of_toggle
toggle_safe = (safe_law mini_a of_toggle (has_graph mini_a) toggle_clean toggle_outputs).0 refl

pub crossed_bad : IsBad of_crossed (flip 52 11)
crossed_bad = (bad_law mini_a of_crossed (has_graph mini_a) crossed_clean crossed_outputs (flip 52 11)).0 refl
