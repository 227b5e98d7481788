-- Checks in a row are decided where each is.
use Rattle.std.proofs.Common.{inl, inr, Option, Some, None, refl}
use Rattle.answers.specs.Refusals.{Refusal}
use Rattle.design_checks.specs.Checks.{Passes, ◌before◌, Computed}
use Rattle.decided_laws.specs.Statements.{IsDecided}

-- the second need be decided only where the first passes
pub before_decided : (first second : Refusal → Type 0) → IsDecided first → (Passes first → IsDecided second) → IsDecided (first before second)
before_decided first second (inl h) next = inl (h.0, inl h.1)
before_decided first second (inr pass) next = elim (next pass) [
  | inl h ↦ inl (h.0, inr (pass, h.1))
  | inr none ↦ inr (λ r h. elim h [ inl a ↦ pass r a | inr b ↦ none r b.1 ])
]

pub computed_decided : (o : Option Refusal) → IsDecided (Computed o)
computed_decided None = inr (λ r h. let no : ⊥ = cc in no)
computed_decided (Some r) = inl (r, refl)
