-- What passes a row of checks passes each, and what is decided where.
use Rattle.std.proofs.Common.{◌≡◌, ◌≢◌, Bool, true, false, ◌⊎◌, inl, inr, refl}
use Rattle.records.specs.Side.{Domain, D0, D1, D2}
use Rattle.circuit.specs.Parts.{Kind, OfTable, OfRegister, OfInput, OfClock}
use Rattle.answers.specs.Refusals.{Refusal}
use Rattle.design_checks.specs.Checks.{Passes, ◌before◌}

pub first_passes : (first second : Refusal → Type 0) → Passes (first before second) → Passes first
first_passes first second pass r h = pass r (inl h)

pub second_passes : (first second : Refusal → Type 0) → Passes (first before second) → Passes second
second_passes first second pass r h = pass r (inr (first_passes first second pass, h))

pub both_pass : (first second : Refusal → Type 0) → Passes first → Passes second → Passes (first before second)
both_pass first second p q r h = elim h [ inl k ↦ p r k | inr k ↦ q r k.1 ]

-- ---- what is decided

pub same_domain : (d e : Domain) → (d ≡ e) ⊎ (d ≢ e)
same_domain D0 D0 = inl refl
same_domain D0 D1 = inr (λ h. let no : ⊥ = cc in no)
same_domain D0 D2 = inr (λ h. let no : ⊥ = cc in no)
same_domain D1 D0 = inr (λ h. let no : ⊥ = cc in no)
same_domain D1 D1 = inl refl
same_domain D1 D2 = inr (λ h. let no : ⊥ = cc in no)
same_domain D2 D0 = inr (λ h. let no : ⊥ = cc in no)
same_domain D2 D1 = inr (λ h. let no : ⊥ = cc in no)
same_domain D2 D2 = inl refl

pub is_clock : (k : Kind) → (k ≡ OfClock) ⊎ (k ≢ OfClock)
is_clock (OfTable t) = inr (λ h. let no : ⊥ = cc in no)
is_clock (OfRegister r) = inr (λ h. let no : ⊥ = cc in no)
is_clock OfInput = inr (λ h. let no : ⊥ = cc in no)
is_clock OfClock = inl refl

-- bits are equal where they can't differ
pub bits_agree : (a b : Bool) → ((a ≡ b → ⊥) → ⊥) → a ≡ b
bits_agree true true h = refl
bits_agree true false h = absurd (h (λ e. let no : ⊥ = cc in no))
bits_agree false true h = absurd (h (λ e. let no : ⊥ = cc in no))
bits_agree false false h = refl
