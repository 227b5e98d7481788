use Rattle.std.proofs.Common.{◌↔◌, ℕ, List, sym, subst}
use Rattle.std.specs.Prelude.{reverse}
use Rattle.words.specs.Members.{In}
use Rattle.words.specs.Twice.{HasNoneTwice}
use Rattle.links.specs.Links.{Drives}
use Rattle.live_links.specs.Live.{present}
use Rattle.live_links.proofs.Kept.{joined_value}
use Rattle.live_links.proofs.stack.LinkStack.next.Goals as goal

pub returns-clause-all : goal.returns-clause-all
returns-clause-all c = λ x.
    let i = c.self.inside in
    let h = (joined_value (reverse i.added.items) i.drivers i.next i.feeds.items i.outputs.items c.args.self.now c.self.invariant c.self.view_is).has_next c.args.w x in
    subst (λ (row : List ℕ). In row x ↔ Drives (present c.args.self.now) c.args.w x) (sym c.row_of.ensures) (h.1, h.0)

pub returns-clause-once : goal.returns-clause-once
returns-clause-once c =
    let i = c.self.inside in
    let h = (joined_value (reverse i.added.items) i.drivers i.next i.feeds.items i.outputs.items c.args.self.now c.self.invariant c.self.view_is).once c.args.w in
    subst HasNoneTwice (sym c.row_of.ensures) h
