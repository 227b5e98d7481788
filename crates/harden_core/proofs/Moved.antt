-- The cells of a design by what a program lends of it.
use Rattle.std.proofs.Common.{◌≡◌, Ok, Err, subst}
use Rattle.std.specs.Prelude.{Result, IfOk}
use Rattle.patterns.specs.Bits.{Bits}
use Rattle.records.specs.Profile.{Profile}
use Rattle.records.specs.Side.{Side}
use Rattle.fabric.specs.Graph.{Graph}
use Rattle.circuit.specs.Cells.{Cells}
use Rattle.cells.specs.CellsOf.{cells_of}
use Rattle.design_checks.specs.CellChecks.{cell_refusal}
use Rattle.design_checks.specs.Checks.{Computed}
use Rattle.load_routing.specs.declared.error.LoadError.{LoadError}
use Rattle.load_routing.specs.Refused.{IsRefusedBy}

module _ (g : Graph) (p q : Profile) (i j : Bits) (s t : Side) (profile : p ≡ q) (image : i ≡ j) (side : s ≡ t) where
  pub cells_same : (cells : Cells) → cells_of g p i s ≡ Ok cells → cells_of g q j t ≡ Ok cells
  cells_same cells e =
      subst (λ (x : Side). cells_of g q j x ≡ Ok cells) side
      (subst (λ (x : Bits). cells_of g q x s ≡ Ok cells) image
      (subst (λ (x : Profile). cells_of g x i s ≡ Ok cells) profile e))

  pub refused_same : (e : LoadError) → IsRefusedBy (Computed (cell_refusal g p i s)) e → IsRefusedBy (Computed (cell_refusal g q j t)) e
  refused_same e h =
      subst (λ (x : Side). IsRefusedBy (Computed (cell_refusal g q j x)) e) side
      (subst (λ (x : Bits). IsRefusedBy (Computed (cell_refusal g q x s)) e) image
      (subst (λ (x : Profile). IsRefusedBy (Computed (cell_refusal g x i s)) e) profile h))

pub whatever : {X E : Type 0} (P : Type 0) (r : Result X E) → P → IfOk r (λ _. P)
whatever P (Ok x) p = p
whatever P (Err e) p = tt
