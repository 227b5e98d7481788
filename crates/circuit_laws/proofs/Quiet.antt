-- A fault that disturbs and touches nothing changes no run.
use Rattle.std.proofs.Common.{ℕ, Bool, List}
use Rattle.words.specs.Members.{In}
use Rattle.records.specs.Side.{Triple}
use Rattle.circuit.specs.Triples.{PartTriple}
use Rattle.circuit.specs.Circuits.{Circuit}
use Rattle.circuit.specs.Worlds.{World}
use Rattle.circuit.specs.Faults.{Fault}
use Rattle.circuit.specs.Runs.{IsCycle, IsRun}

-- one fault disturbs and touches all that another does
pub record Includes (f g : Fault) : Type 0 where
  pub disturbed : (a : ℕ) → In g.disturbed a → In f.disturbed a
  pub touched : (name : List ℕ) → In g.touched name → In f.touched name

-- the greater fault leaves more free
cycle_under : (c : Circuit) (f g : Fault) → Includes f g → (input : Triple → Bool) (w : World) → IsCycle c g input w → IsCycle c f input w
cycle_under c f g inc input w is = record {
  driven = λ a b quiet h. is.driven a b (λ d. quiet (inc.disturbed a d)) h;
  outputs = λ s js quiet calm. is.outputs s js (λ d. quiet (inc.disturbed s.out d)) (λ d. calm (inc.touched s.part.cell d));
  tables = is.tables;
  pins = is.pins;
  shows = λ p jp calm. is.shows p jp (λ d. calm (inc.touched p.name d));
}

pub run_under : (c : Circuit) (f g : Fault) → Includes f g
    → (start : PartTriple → Bool) (input : ℕ → Triple → Bool) (n : ℕ) (run : ℕ → World) → IsRun c g start input n run
    → IsRun c f start input n run
run_under c f g inc start input n run is = record {
  starts = is.starts;
  cycles = λ t lt. cycle_under c f g inc (input t) (run t) (is.cycles t lt);
  steps = λ t lt s r js ks calm clocked. is.steps t lt s r js ks (λ d. calm (inc.touched s.part.cell d)) clocked;
}
