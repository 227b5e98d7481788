use Rattle.std.proofs.Common.{ℕ, false, inl, inr, List, [], ◌∷◌, refl, subst, arith, rules as auto}
use Rattle.words.specs.Members.{In}
use Rattle.paths.specs.Cuts.{IsCut}
use Rattle.paths.specs.Wiring.{roads_of}
use Rattle.path_examples.specs.Square.{square, rules, tree}
use Rattle.path_examples.proofs.Walked.{closed, rim}
use Rattle.path_examples.proofs.blocked_by_a_cut.Goals as goal

-- each cut holds a, b and c
held : (other : List ℕ) → IsCut (roads_of square (rules 1 false)) (In tree) other 3 → (w : ℕ) → In (0 ∷ 1 ∷ 2 ∷ []) w → In other w
held other cut w i = elim i [
  | inl e ↦ subst (In other) e a
  | inr j ↦ elim j [
    | inl e ↦ subst (In other) e (cut.arcs 0 (record { below = omega arith; listed = inl refl }, refl) a)
    | inr k ↦ elim k [ inl e ↦ subst (In other) e (cut.arcs 2 (record { below = omega arith; listed = inr (inl refl) }, refl) a) | inr n ↦ absurd n ]
  ]
]
  where
    a : In other 0
    a = cut.tree 0 (inl refl)

pub returns-clause-cut : goal.returns-clause-cut
returns-clause-cut c = record {
  least = record { cut = closed; least = held };
  inside_in_order = λ k l. search auto;
  rim_members = λ w. rim w;
  rim_in_order = λ k l. absurd (omega arith);
}

pub returns-clause-not_two : goal.returns-clause-not_two
returns-clause-not_two c = λ cut. elim (held (0 ∷ 1 ∷ []) cut 2 (inr (inr (inl refl)))) [
  | inl e ↦ (let no : ⊥ = omega arith in no)
  | inr j ↦ elim j [ inl e ↦ (let no : ⊥ = omega arith in no) | inr n ↦ n ]
]
