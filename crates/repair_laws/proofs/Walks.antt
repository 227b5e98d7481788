-- Walks along links and one link more.
use Rattle.std.proofs.Common.{◌≡◌, ℕ, ◌⊎◌, inl, inr, refl, sym, subst}
use Rattle.links.specs.Links.{Reaches, here, onto}

-- the last step of a walk
pub last : {Step : ℕ → ℕ → Type 0} {u v : ℕ} → Reaches Step u v → (u ≡ v) ⊎ ((y : ℕ) × (Reaches Step u y × Step y v))
last here = inl refl
last (onto {b} q s) = inr (b, (q, s))

-- its first step
pub first : {Step : ℕ → ℕ → Type 0} {u v : ℕ} → Reaches Step u v → (u ≡ v) ⊎ ((y : ℕ) × (Step u y × Reaches Step y v))
first here = inl refl
first {Step} {u} (onto {b} {c} q s) = elim (first q) [
  | inl e ↦ inr (c, (subst (λ t. Step t c) (sym e) s, here))
  | inr k ↦ inr (k.0, (k.1.0, onto k.1.1 s))
]

-- with one link more a walk is as before, or it goes to that link's source and on from its sink
pub split : {Step More : ℕ → ℕ → Type 0} (x w : ℕ) {u v : ℕ} → ((y z : ℕ) → More y z → Step y z ⊎ ((y ≡ x) × (z ≡ w))) → Reaches More u v
    → Reaches Step u v ⊎ (Reaches Step u x × Reaches Step w v)
split x w new here = inl here
split {Step} x w {u} new (onto {b = y} {c = z} q s) = elim (new y z s) [
  | inl old ↦ elim (split x w new q) [ inl p ↦ inl (onto p old) | inr p ↦ inr (p.0, onto p.1 old) ]
  | inr e ↦ elim (split x w new q) [
    | inl p ↦ inr (subst (λ t. Reaches Step u t) e.0 p, subst (λ t. Reaches Step w t) (sym e.1) here)
    | inr p ↦ inr (p.0, subst (λ t. Reaches Step w t) (sym e.1) here)
  ]
]
