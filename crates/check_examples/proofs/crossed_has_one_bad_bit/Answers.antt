use Rattle.std.proofs.Common.{inl, inr, refl, subst}
use Rattle.design_answers.specs.BadBits.{at_wire, IsBadPlace}
use Rattle.upset_examples.proofs.Conditions.{of_crossed}
use Rattle.check_examples.proofs.BadBits.{first_domain, second_domain, first_place, second_place, is_that_bit}
use Rattle.check_examples.proofs.crossed_has_one_bad_bit.Goals as goal

pub returns : goal.returns
returns c = record {
  rising = ((λ y i. absurd i), tt);
  each = λ b i. elim i [
    | inl e ↦ subst (IsBadPlace of_crossed) e (record {
      mux_bit = refl;
      first = first_domain;
      second = second_domain;
      first_at = at_wire _ _ first_place refl;
      second_at = at_wire _ _ second_place refl;
    })
    | inr j ↦ absurd j
  ];
  all = λ bit i h. (_, (inl refl, is_that_bit bit i h));
}
