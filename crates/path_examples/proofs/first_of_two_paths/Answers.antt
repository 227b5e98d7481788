use Rattle.std.proofs.Common.{◌≤◌, ◌≢◌, true, inl, inr, [], ◌∷◌, refl, sym, subst, arith}
use Rattle.std.specs.declared.cmp.Ordering.TheVariants.{Greater}
use Rattle.std.specs.Ordering.{nat_cmp}
use Rattle.std.specs.Cmp.Lexicographic.{slice_cmp}
use Rattle.links.specs.Links.{here}
use Rattle.paths.specs.Paths.{weight_of}
use Rattle.paths.specs.Wiring.{roads_of}
use Rattle.path_examples.specs.Square.{square, rules}
use Rattle.path_examples.proofs.Walked.{two_paths}
use Rattle.path_examples.proofs.first_of_two_paths.Goals as goal

pub returns-clause-path : goal.returns-clause-path
returns-clause-path c = record {
  is_path = (inl refl, (record { below = omega arith; listed = inl refl }, refl), (here, (record { below = omega arith; listed = inl refl }, refl), here));
  least = λ other p. elim (two_paths 1 true other p) [
    | inl e ↦ subst (λ o. 2 ≤ weight_of (roads_of square (rules 1 true)) (rules 1 true).weight o) (sym e) (omega arith)
    | inr e ↦ subst (λ o. 2 ≤ weight_of (roads_of square (rules 1 true)) (rules 1 true).weight o) (sym e) (omega arith)
  ];
  first = λ other p w. elim (two_paths 1 true other p) [
    | inl e ↦ subst (λ o. slice_cmp nat_cmp (0 ∷ 1 ∷ []) o ≢ Greater) (sym e) (λ h. let no : ⊥ = cc in no)
    | inr e ↦ subst (λ o. slice_cmp nat_cmp (0 ∷ 1 ∷ []) o ≢ Greater) (sym e) (λ h. let no : ⊥ = cc in no)
  ];
}
