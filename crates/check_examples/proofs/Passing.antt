-- The toggle on MINI-A passes all checks.
use Rattle.std.proofs.Common.{◌≡◌, ℕ, Bool, true, not, ◌||◌, refl, eqb}
use Rattle.std.specs.List.{list_all, list_any}
use Rattle.fabric.specs.Agree.{ArcsAgree}
use Rattle.fabric.specs.Graph.{Graph}
use Rattle.fabric_laws.specs.PlainGraph.{graph_of}
use Rattle.fabric_laws.proofs.Members.{all_from, any_from, imp_from}
use Rattle.fabric_laws.proofs.Graphs.{has_graph}
use Rattle.fabric_laws.proofs.Agreeing.{agreeing}
use Rattle.links.proofs.Below.{has_in, below_complete}
use Rattle.links.specs.Below.{has, below}
use Rattle.circuit.specs.Parts.{Source, sources}
use Rattle.circuit.specs.Pins.{Pin, pins}
use Rattle.circuit.specs.Circuits.{Circuit}
use Rattle.circuit_examples.proofs.Tests.{number_is}
use Rattle.mini.specs.MiniA.{mini_a}
use Rattle.mini.specs.Toggle.{toggle}
use Rattle.mini.specs.ToggleCells.{toggle_cells}
use Rattle.upset.specs.Configured.{circuit_of}
use Rattle.upset_examples.proofs.Conditions.{of_toggle, toggle_clean}
use Rattle.upset_examples.proofs.ToggleMeets.{toggle_triplicated}
use Rattle.formed_examples.proofs.Read.{toggle_read}
use Rattle.design_checks.specs.Checks.{Passes}
use Rattle.design_checks.specs.DesignChecks.{DesignRefused}
use Rattle.check_laws.specs.Accepted.{FeedsAreModelled, IsSound}
use Rattle.check_laws.proofs.Converse.{sound_passes}
use Rattle.check_examples.specs.Toggles.{toggle_design}

abbrev g : Graph
g = graph_of mini_a

abbrev circuit : Circuit
circuit = circuit_of of_toggle

-- a cell output that reaches a wire is a modelled one
abbrev reaches_modelled : ℕ → ℕ → Bool
reaches_modelled w o = not (has (below circuit.routing.links o) w) || list_any (λ s. eqb s.out o) (sources circuit.cells)

modelled_test : list_all (λ p. list_all (reaches_modelled p.wire) circuit.routing.outputs) (pins circuit.cells) ≡ true
modelled_test = refl

modelled : FeedsAreModelled circuit
modelled p o i f =
    let at = all_from (reaches_modelled p.wire) circuit.routing.outputs (all_from (λ (q : Pin). list_all (reaches_modelled q.wire) circuit.routing.outputs) (pins circuit.cells) modelled_test p i) o f.output in
    let s = any_from (λ (x : Source). eqb x.out o) (sources circuit.cells) (imp_from (has (below circuit.routing.links o) p.wire) (list_any (λ (x : Source). eqb x.out o) (sources circuit.cells)) at
    (has_in (below circuit.routing.links o) p.wire (below_complete circuit.routing.links f.reach))) in
    (s.0, (s.1, number_is s.0.out o s.2))

agree : ArcsAgree g of_toggle.image toggle
agree = (agreeing mini_a g (has_graph mini_a) of_toggle.image toggle).0 refl

pub toggle_sound : IsSound mini_a toggle of_toggle
toggle_sound = record { read = toggle_read; clean = toggle_clean; agree = agree; modelled = modelled; triplicated = toggle_triplicated }

pub toggle_passes : Passes (DesignRefused toggle_design g)
toggle_passes = sound_passes toggle_design g (toggle_cells g) toggle_sound refl refl
