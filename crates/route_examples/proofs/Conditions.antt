-- The texts of the corridor meet the conditions of the laws.
use Rattle.std.proofs.Common.{◌≡◌, ℕ, true, List, [], ◌∷◌, inl, refl, sym, subst, arith}
use Rattle.std.specs.List.{list_all}
use Rattle.links.proofs.Below.{in_has}
use Rattle.words.specs.Members.{In}
use Rattle.fabric.specs.Device.{Device}
use Rattle.fabric.specs.Graph.{GraphArc, Graph}
use Rattle.fabric_laws.specs.PlainGraph.{graph_of}
use Rattle.fabric_laws.proofs.Graphs.{has_graph}
use Rattle.fabric_laws.proofs.Members.{all_from}
use Rattle.fabric_examples.proofs.Tests.{drives_once, clean_once}
use Rattle.records.specs.Config.{Config}
use Rattle.links.specs.Below.{has}
use Rattle.circuit.specs.Parts.{sources}
use Rattle.upset.specs.Configured.{Configured}
use Rattle.upset_laws.specs.PlainUpset.{OutputsListed}
use Rattle.repair.specs.Layouts.{configured}
use Rattle.repair.specs.Turns.{Turn, routing}
use Rattle.repair.specs.Routes.{IsTheRoute}
use Rattle.mini_b.specs.MiniB.{mini_b}
use Rattle.route_laws.specs.PlainPaths.{first_paths, weight_by}
use Rattle.route_laws.proofs.Rules.{IsToldBy}
use Rattle.route_laws.proofs.Paths.{route_law}
use Rattle.route_examples.specs.Corridors.{with_corridor}

abbrev pub g : Graph
g = graph_of mini_b

pub outputs_listed : (k : Configured) → list_all (λ s. has k.graph.outputs s.out) (sources k.cells) ≡ true → OutputsListed k
outputs_listed k h s i = in_has k.graph.outputs s.out (all_from (λ x. has k.graph.outputs x.out) (sources k.cells) h s i)

corridor_outputs : (config : Config) → OutputsListed (configured (with_corridor g config))
corridor_outputs config = outputs_listed (configured (with_corridor g config)) refl

-- a text whose wires are driven once
pub told_by : (config : Config) → drives_once (routing (configured (with_corridor g config))) ≡ true → IsToldBy mini_b (configured (with_corridor g config))
told_by config h = record { graph = has_graph mini_b; clean = clean_once (routing (configured (with_corridor g config))) h; outputs = corridor_outputs config }

-- where the list of first paths holds one, that is the path of the connection
pub the_way : (device : Device) (t : Turn) → IsToldBy device t.now → (rims : List (List ℕ)) (n pin : ℕ) (path : List GraphArc)
    → weight_by rims t path ≡ n → first_paths rims t n pin ≡ path ∷ [] → IsTheRoute rims t path pin
the_way device t told rims n pin path weight firsts = (route_law device t told rims n pin path (omega arith)).0 (subst (λ ps. In ps path) (sym firsts) (inl refl))
