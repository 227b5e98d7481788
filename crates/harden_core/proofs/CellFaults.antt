-- Cells that aren't there.
use Rattle.std.proofs.Common.{◌≡◌, Option, None, Some, Ok, Err, option_map, refl, sym, ap, subst}
use Rattle.std.specs.Prelude.{MatchOption, IfSome}
use Rattle.patterns.specs.Bits.{Bits}
use Rattle.records.specs.Profile.{Profile}
use Rattle.records.specs.Side.{Side}
use Rattle.fabric.specs.Graph.{Graph}
use Rattle.circuit.specs.Cells.{Cells}
use Rattle.cells.specs.CellsOf.{cells_of, unless}
use Rattle.cells.specs.Faults.{CellFault, cell_fault}
use Rattle.design_checks.specs.CellChecks.{cell_refusal, refusal_of_cells}
use Rattle.design_checks.specs.Checks.{Passes, Computed}
use Rattle.load_routing.specs.declared.error.LoadError.{LoadError}
use Rattle.load_routing.specs.declared.error.LoadError.TheVariants.{Memory}
use Rattle.load_routing.specs.Refused.{IsRefusal, IsRefusedBy}
use Rattle.load_routing.proofs.Checked.{refused_by, none_passes}

none_there : (o : Option CellFault) (made cells : Cells) → unless o made ≡ Ok cells → o ≡ None
none_there None made cells e = refl
none_there (Some f) made cells e = absurd (let no : ⊥ = cc in no)

one_there : (o : Option CellFault) (made : Cells) (f : CellFault) → unless o made ≡ Err f → o ≡ Some f
one_there None made f e = absurd (let no : ⊥ = cc in no)
one_there (Some x) made f e = (let s : x ≡ f = cc in ap (λ (y : CellFault). Some y) s)

module _ (g : Graph) (profile : Profile) (image : Bits) (side : Side) where
  pub cells_pass : (cells : Cells) → cells_of g profile image side ≡ Ok cells → Passes (Computed (cell_refusal g profile image side))
  cells_pass cells e = none_passes (cell_refusal g profile image side) (ap (option_map refusal_of_cells) (none_there (cell_fault g profile image side) _ cells e))

  pub cells_fail : (o : Option CellFault) (e : LoadError) → MatchOption o (e ≡ Memory) (λ f. IsRefusal (refusal_of_cells f) e) → IfSome o (λ f. cells_of g profile image side ≡ Err f)
      → IsRefusedBy (Computed (cell_refusal g profile image side)) e
  cells_fail None e says is = subst (IsRefusedBy (Computed (cell_refusal g profile image side))) (sym says) tt
  cells_fail (Some f) e says is =
      refused_by (Computed (cell_refusal g profile image side)) (refusal_of_cells f) e (ap (option_map refusal_of_cells) (one_there (cell_fault g profile image side) _ f is)) says
