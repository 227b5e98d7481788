use Rattle.std.proofs.Common.{ℕ, List, [], ◌∷◌, inl, inr, subst, sym}
use Rattle.words.specs.Members.{In}
use Rattle.links.proofs.Members.{in_left}
use Rattle.pin_search.proofs.Touched.{in_more}
use Rattle.pin_search.proofs.front.note.Goals as goal

pub returns-clause-kept : goal.returns-clause-kept
returns-clause-kept c = λ x i. subst (λ (xs : List ℕ). In xs x) (sym c.in_ok-push.ensures.items) (in_left c.args.touched.now.items (c.args.w ∷ []) x i)

pub returns-clause-others : goal.returns-clause-others
returns-clause-others c = λ x i. elim (in_more c.args.touched.now.items c.args.w x (subst (λ (xs : List ℕ). In xs x) c.in_ok-push.ensures.items i)) [ inl j ↦ inr j | inr e ↦ inl e ]
