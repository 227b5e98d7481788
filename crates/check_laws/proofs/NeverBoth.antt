-- Inputs that are accepted have no first refusal.
use Rattle.std.proofs.Common.{◌≡◌, subst}
use Rattle.std.specs.Prelude.{Result, Ok, Err}
use Rattle.fabric.specs.Graph.{Graph}
use Rattle.fabric.specs.GraphOf.{IsGraph}
use Rattle.circuit.specs.Cells.{Cells}
use Rattle.answers.specs.Refusals.{Refusal}
use Rattle.commands.specs.Commands.{Inputs}
use Rattle.design_files.specs.Parsed.{Files}
use Rattle.design_files.specs.Designs.{Design, design_of}
use Rattle.design_checks.specs.DesignChecks.{DesignRefused, IsFirstRefusal, of_files, of_design, IsAccepted}
use Rattle.fabric_laws.proofs.Graphs.{one_graph}

pub ok_err : {d : Design} {r : Refusal} (o : Result Design Refusal) → o ≡ Ok d → o ≡ Err r → ⊥
ok_err o h k = (let wrong : ⊥ = cc in wrong)

pub same_design : (d e : Design) (o : Result Design Refusal) → o ≡ Ok d → o ≡ Ok e → d ≡ e
same_design d e o h k = cc

pub never_both : (files : Files) (inputs : Inputs) (design : Design) (g : Graph) (cells : Cells) (r : Refusal) → IsAccepted files inputs design g cells → IsFirstRefusal files inputs r → ⊥
never_both files inputs design g cells r a (of_files e) = ok_err (design_of files inputs) a.read e
never_both files inputs design g cells r a (of_design other h {r = s} e is refused) = at (same_design other design (design_of files inputs) e a.read) h is refused
  where
    at : other ≡ design → (h : Graph) → IsGraph other.device h → DesignRefused other h r → ⊥
    at same h is refused = at_design (subst (λ (d : Design). IsGraph d.device h) same is) (subst (λ (d : Design). DesignRefused d h r) same refused)
      where
        at_design : IsGraph design.device h → DesignRefused design h r → ⊥
        at_design is refused = a.passes r (subst (λ (x : Graph). DesignRefused design x r) (one_graph design.device h g is a.graph) refused)
