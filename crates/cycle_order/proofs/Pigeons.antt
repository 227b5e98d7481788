-- Where each of some nodes is led to by one of them, one of them reaches itself.
use Rattle.std.proofs.Common.{ℕ, ◌⊎◌, List, [], ◌∷◌, refl, sym, subst, inl, inr}
use Rattle.words.specs.Members.{In}
use Rattle.links.specs.Links.{Reaches, here}
use Rattle.links.proofs.Walks.{reaches_from, reaches_on}
use Rattle.cycle_order.specs.Orders.{IsOnCycle}

-- a node is reached in one step or more
abbrev Leading : (ℕ → ℕ → Type 0) → ℕ → ℕ → Type 0
Leading Step a b = (u : ℕ) × (Step a u × Reaches Step u b)

-- a node that is kept leads to another
abbrev IsLed : (ℕ → ℕ → Type 0) → (ℕ → Type 0) → List ℕ → ℕ → Type 0
IsLed Step Kept xs x = (p : ℕ) × (In xs p × (Kept p × Leading Step p x))

leading_on : (Step : ℕ → ℕ → Type 0) (a b c : ℕ) → Leading Step a b → Leading Step b c → Leading Step a c
leading_on Step a b c p q = (p.0, (p.1.0, reaches_on p.1.1 (reaches_from q.1.0 q.1.1)))

module _ (Step : ℕ → ℕ → Type 0) (Kept : ℕ → Type 0) (test : (x : ℕ) → Kept x ⊎ (Kept x → ⊥)) where
  led : (xs : List ℕ) → ((x : ℕ) → In xs x → Kept x → IsLed Step Kept xs x) → (x : ℕ) → In xs x → Kept x → (z : ℕ) × Leading Step z z
  led [] all x i k = absurd i
  led (y ∷ ys) all x i k = elim (test y) as (λ _. (z : ℕ) × Leading Step z z) [
    | inr out ↦ led ys
        (λ w j kept. let p = all w (inr j) kept in elim p.1.0 as (λ _. IsLed Step Kept ys w) [
          | inl e ↦ absurd (out (subst Kept (sym e) p.1.1.0))
          | inr h ↦ (p.0, (h, p.1.1))
        ])
        x (elim i [ inl e ↦ absurd (out (subst Kept (sym e) k)) | inr j ↦ j ]) k
    | inl kept ↦ (let q = all y (inl refl) kept in elim q.1.0 as (λ _. (z : ℕ) × Leading Step z z) [
      | inl e ↦ (y, subst (λ z. Leading Step z y) (sym e) q.1.1.1)
      | inr h ↦ led ys
          (λ w j known. let p = all w (inr j) known in elim p.1.0 as (λ _. IsLed Step Kept ys w) [
            | inl e ↦ (q.0, (h, (q.1.1.0, leading_on Step q.0 y w q.1.1.1 (subst (λ z. Leading Step z w) (sym e) p.1.1.1))))
            | inr g ↦ (p.0, (g, p.1.1))
          ])
          q.0 h q.1.1.0
    ])
  ]

-- where each node that is kept is led to by one that is, there is a cycle
pub kept_on_cycle : (Step : ℕ → ℕ → Type 0) (Kept : ℕ → Type 0) → ((x : ℕ) → Kept x ⊎ (Kept x → ⊥)) → (xs : List ℕ)
    → ((x : ℕ) → In xs x → Kept x → (p : ℕ) × (In xs p × (Kept p × Step p x))) → (x : ℕ) → In xs x → Kept x → (z : ℕ) × IsOnCycle Step z
kept_on_cycle Step Kept test xs all x i k =
    led Step Kept test xs (λ w j kept. let p = all w j kept in (p.0, (p.1.0, (p.1.1.0, (w, (p.1.1.1, here)))))) x i k
