use Rattle.std.proofs.Common.{ℕ, ◌<◌, List, ◌∷◌, [], ◌++◌, set, true, sym, subst}
use Rattle.words.specs.Members.{In}
use Rattle.cycle_order.specs.Marks.{AreMarked, Listing}
use Rattle.cycle_order.proofs.Marking.{marked_more}
use Rattle.cycle_order.proofs.listed.Listed.push.Goals as goal

pub invariant_of-self-2 : goal.invariant_of-self-2
invariant_of-self-2 c =
    subst (λ (nodes : List ℕ). AreMarked (set c.self.inside.marks.items c.to_u32.result true) nodes) (sym c.in_ok-push.ensures.items)
    (subst (λ (node : ℕ). AreMarked (set c.self.inside.marks.items node true) (c.self.inside.nodes.items ++ c.args.node ∷ [])) (sym c.to_u32.ensures)
    (marked_more c.self.inside.marks.items c.self.inside.nodes.items c.args.node c.self.invariant
    (subst (λ (l : Listing). c.args.node < l.count) (sym c.self.view_is) c.requires.below)
    (subst (λ (l : Listing). In l.nodes c.args.node → ⊥) (sym c.self.view_is) c.requires.apart)))
