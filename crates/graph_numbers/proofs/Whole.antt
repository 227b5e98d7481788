-- The numbers of a device stand for its graph.
use Rattle.std.proofs.Common.{◌≡◌, List, [], ◌∷◌, map, filter_map, Option, Some, refl, sym, ap, subst, ◌∙◌}
use Rattle.fabric.specs.InOrder.{InOrderOnce}
use Rattle.fabric.specs.Device.{Device}
use Rattle.fabric.specs.Graph.{GraphMux}
use Rattle.fabric.specs.GraphOf.{muxes_of, arcs_of, arc_cmp, IsGraph}
use Rattle.graph_numbers.specs.Numbers.{mux_numbers}
use Rattle.graph_numbers.specs.StandFor.{mux_of, arc_of}
use Rattle.graph_numbers.specs.Graphs.{GraphNumbers, muxes_with, graph_with, AreGraphNumbers}
use Rattle.graph_numbers.proofs.Numbered.{muxes_stand}
use Rattle.graph_numbers.proofs.Sorted.{order_kept}

-- where each element stands for one, none is left out
none_left_out : {A B : Type 0} (G : A → Option B) (xs : List A) (ys : List B) → map G xs ≡ map (λ y. Some y) ys → filter_map G xs ≡ ys
none_left_out G [] [] h = refl
none_left_out G [] (y ∷ ys) h = absurd (let no : ⊥ = cc in no)
none_left_out G (x ∷ xs) [] h = absurd (let no : ⊥ = cc in no)
none_left_out G (x ∷ xs) (y ∷ ys) h =
    let first : G x ≡ Some y = cc in
    let rest : map G xs ≡ map (λ v. Some v) ys = cc in
    rw first (ap (λ zs. y ∷ zs) (none_left_out G xs ys rest))

pub whole : (device : Device) (n : GraphNumbers) → AreGraphNumbers device n → IsGraph device (graph_with device n)
whole device n are =
    let muxes : muxes_with device n ≡ muxes_of device n.wires = ap (filter_map (mux_of device)) are.muxes ∙ none_left_out (mux_of device) (mux_numbers device n.wires) (muxes_of device n.wires) (muxes_stand device n.wires) in
    record {
      grid = refl;
      wires = are.wires;
      muxes = muxes;
      arcs = subst (λ (ms : List GraphMux). InOrderOnce arc_cmp (arcs_of device n.wires) (filter_map (arc_of ms) n.arcs)) (sym muxes) (order_kept device n.wires n.arcs are.arcs);
      fixed = are.fixed;
      outputs = are.outputs;
      settings = refl;
    }
