use Rattle.std.proofs.Common.{◌≡◌, ◌<◌, ℕ, [], ◌∷◌, get_or, refl, subst, inl, inr, lit<}
use Rattle.std.specs.Ordering.{nat_cmp}
use Rattle.std.specs.declared.cmp.Ordering.TheVariants.{Less}
use Rattle.grouped_laws.proofs.three_items_are_grouped.Goals as goal

pub returns-clause-order : goal.returns-clause-order
returns-clause-order c =
    let below : (a b y : ℕ) → nat_cmp a b ≡ Less → b ≡ y → nat_cmp a y ≡ Less = λ a b y less e. let P : ℕ → Type 0 = λ n. nat_cmp a n ≡ Less in subst P e less in (
      (λ y i. elim i [ inl e ↦ below 0 1 y refl e | inr j ↦ elim j [ inl e ↦ below 0 2 y refl e | inr k ↦ absurd k ] ]),
      ((λ y i. elim i [ inl e ↦ below 1 2 y refl e | inr k ↦ absurd k ]), ((λ y k. absurd k), tt)),
    )

pub returns-clause-keys : goal.returns-clause-keys
returns-clause-keys c = λ x i.
    let P : ℕ → Type 0 = λ n. get_or (1 ∷ 0 ∷ 1 ∷ []) n 0 < 2 in
    elim i [ inl e ↦ subst P e (lit< tt) | inr j ↦ elim j [ inl e ↦ subst P e (lit< tt) | inr k ↦ elim k [ inl e ↦ subst P e (lit< tt) | inr n ↦ absurd n ] ] ]

pub returns-clause-rows : goal.returns-clause-rows
returns-clause-rows c = refl
