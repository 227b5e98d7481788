-- A circuit under a fault of one domain keeps the outputs of each circuit of its design: its own undisturbed run stands
-- between the two.
use Rattle.std.proofs.Common.{sym, ◌∙◌}
use Rattle.records.specs.Side.{Domain}
use Rattle.circuit.specs.Circuits.{Circuit}
use Rattle.circuit.specs.Designs.{SameDesign}
use Rattle.circuit.specs.Faults.{Fault, no_fault, WithinOneDomain}
use Rattle.circuit.specs.Right.{KeepsOutside, KeepsTwo}
use Rattle.circuit.specs.Triplicated.{IsTriplicated}
use Rattle.circuit_laws.proofs.Sound.{Sound}
use Rattle.circuit_laws.proofs.ChosenRun.{world_at, run_is}
use Rattle.circuit_laws.proofs.OneDesign.{shown_same}
use Rattle.circuit_laws.proofs.OutputsRight.{masked, two_right}

pub same_back : (c e : Circuit) → SameDesign c e → SameDesign e c
same_back c e same = record {
  sides = record {
    slices = sym same.sides.slices;
    pads = sym same.sides.pads;
    triples = sym same.sides.triples;
    inputs = sym same.sides.inputs;
    outputs = sym same.sides.outputs;
    clocks = sym same.sides.clocks;
    voters = sym same.sides.voters;
  };
  parts = sym same.parts;
  connections = λ x. ((same.connections x).1, (same.connections x).0);
}

module _ (c e : Circuit) (oc : Sound c) (oe : Sound e) (tc : IsTriplicated c) (te : IsTriplicated e) (same : SameDesign c e) (f : Fault) (within : WithinOneDomain e f) where
  pub kept_outside : (d : Domain) × KeepsOutside c e f d
  kept_outside =
      let g = masked e oe te f within in (
        g.0,
        λ start input n faulty is t lt p jp out. λ m right ir lm.
            (let own = world_at e oe te.no_loop no_fault start input faulty in
            let quiet = run_is e oe te.no_loop no_fault start input faulty m in
            g.1 start input n faulty is t lt p jp out m own quiet lm ∙ shown_same e c oe oc te tc (same_back c e same) start input m own right quiet ir t lm p jp),
      )

  pub kept_two : KeepsTwo c e f
  kept_two = λ start input n run is t lt o jo. two_right e oe te o jo f start input n run is t lt c kept_outside.0 kept_outside.1
