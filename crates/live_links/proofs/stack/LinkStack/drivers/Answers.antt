use Rattle.std.proofs.Common.{◌↔◌, ℕ, List, sym, subst}
use Rattle.std.specs.Ordering.{nat_cmp}
use Rattle.std.specs.Prelude.{reverse}
use Rattle.words.specs.Members.{In}
use Rattle.links.specs.Links.{Drives}
use Rattle.fabric.specs.InOrder.{IsRising}
use Rattle.live_links.specs.Live.{present}
use Rattle.live_links.proofs.Kept.{joined_value}
use Rattle.live_links.proofs.stack.LinkStack.drivers.Goals as goal

pub returns-clause-all : goal.returns-clause-all
returns-clause-all c = λ x.
    let i = c.self.inside in
    let h = (joined_value (reverse i.added.items) i.drivers i.next i.feeds.items i.outputs.items c.args.self.now c.self.invariant c.self.view_is).has_drivers c.args.w x in
    subst (λ (row : List ℕ). In row x ↔ Drives (present c.args.self.now) x c.args.w) (sym c.row_of.ensures) (h.1, h.0)

pub returns-clause-order : goal.returns-clause-order
returns-clause-order c =
    let i = c.self.inside in
    let h = (joined_value (reverse i.added.items) i.drivers i.next i.feeds.items i.outputs.items c.args.self.now c.self.invariant c.self.view_is).rising c.args.w in
    subst (IsRising nat_cmp) (sym c.row_of.ensures) h
