-- Checks in a row, and what an error says of them.
use Rattle.std.proofs.Common.{◌≡◌, inl, inr, Option, None, Some, sym, ◌∙◌}
use Rattle.answers.specs.Refusals.{Refusal}
use Rattle.design_checks.specs.Checks.{Passes, ◌before◌, Computed}
use Rattle.load_routing.specs.declared.error.LoadError.{LoadError}
use Rattle.load_routing.specs.declared.error.LoadError.TheVariants.{Refused, Memory}
use Rattle.load_routing.specs.Refused.{IsRefusal, IsRefusedBy}

-- what one check refuses has its line
pub refused_by : (check : Refusal → Type 0) (r : Refusal) (e : LoadError) → check r → IsRefusal r e → IsRefusedBy check e
refused_by check r (Refused text) c is = (r, (c, is))
refused_by check r Memory c is = tt

pub first_refuses : (first second : Refusal → Type 0) (e : LoadError) → IsRefusedBy first e → IsRefusedBy (first before second) e
first_refuses first second (Refused text) h = (h.0, (inl h.1.0, h.1.1))
first_refuses first second Memory h = tt

pub second_refuses : (first second : Refusal → Type 0) (e : LoadError) → Passes first → IsRefusedBy second e → IsRefusedBy (first before second) e
second_refuses first second (Refused text) p h = (h.0, (inr (p, h.1.0), h.1.1))
second_refuses first second Memory p h = tt

pub both_pass : (first second : Refusal → Type 0) → Passes first → Passes second → Passes (first before second)
both_pass first second p q r h = elim h [
  | inl f ↦ p r f
  | inr s ↦ q r s.1
]

-- a check that computes nothing passes
pub none_passes : (refusal : Option Refusal) → refusal ≡ None → Passes (Computed refusal)
none_passes refusal e r h = (let no : None ≡ Some r = sym e ∙ h in let wrong : ⊥ = cc in wrong)
