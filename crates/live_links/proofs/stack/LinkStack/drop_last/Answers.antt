use Rattle.std.proofs.Common.{sym, subst, arith}
use Rattle.std.specs.Prelude.{reverse}
use Rattle.links.specs.Links.{IsClean}
use Rattle.live_links.specs.Live.{Stacked, present, without_last}
use Rattle.live_links.proofs.Kept.{Keeps, joined_value, keeps_less, last_filled, links_long, popped_last, whole}
use Rattle.live_links.proofs.stack.LinkStack.drop_last.Goals as goal
use Rattle.live_links.proofs.stack.LinkStack.drop_last.Goals.{After-take_back}

pub unwrap-added-requires : goal.unwrap-added-requires
unwrap-added-requires c =
    let i = c.self.inside in
    let long = links_long i.added.items i.drivers i.next i.outputs.items c.args.self.now c.self.view_is in
    let some = c.requires in
    c.pop.ensures.variant.1 (omega arith)

pub take_back-requires-clause-drivers : goal.take_back-requires-clause-drivers
take_back-requires-clause-drivers c =
    let i = c.self.inside in
    (last_filled i.added.items c.pop.new.self.items c.unwrap-added.result i.drivers i.next i.feeds.items i.outputs.items (popped_last i.added.items c.pop.new.self.items c.pop.result c.unwrap-added.result c.pop.ensures.items c.unwrap-added.ensures) c.self.invariant).0

pub take_back-requires-clause-next : goal.take_back-requires-clause-next
take_back-requires-clause-next c =
    let i = c.self.inside in
    (last_filled i.added.items c.pop.new.self.items c.unwrap-added.result i.drivers i.next i.feeds.items i.outputs.items (popped_last i.added.items c.pop.new.self.items c.pop.result c.unwrap-added.result c.pop.ensures.items c.unwrap-added.ensures) c.self.invariant).1

-- what is left
left : (c : After-take_back) → Keeps c.pop.new.self.items c.take_back.new.drivers c.take_back.new.next c.take_back.new.feeds c.self.inside.outputs.items (without_last c.args.self.now)
left c =
    let i = c.self.inside in
    keeps_less i.added.items c.pop.new.self.items c.unwrap-added.result i.drivers i.next c.take_back.new.drivers c.take_back.new.next i.feeds.items c.deref_mut.result.now c.take_back.new.feeds i.outputs.items c.args.self.now
    (popped_last i.added.items c.pop.new.self.items c.pop.result c.unwrap-added.result c.pop.ensures.items c.unwrap-added.ensures) c.self.invariant c.self.view_is c.deref_mut.ensures.value c.take_back.ensures.drivers c.take_back.ensures.next c.take_back.ensures.feeds

pub invariant_of-self : goal.invariant_of-self
invariant_of-self c =
    let i = c.self.inside in
    let k = left (goal.at.invariant_of-self c).After-take_back in
    rw (whole c.take_back.new.feeds i.feeds.items i.feeds.len (omega arith) (omega arith)) k.stack

pub returns-clause-last : goal.returns-clause-last
returns-clause-last c = (left (goal.at.returns-clause-last c).After-take_back).is

pub returns-clause-clean : goal.returns-clause-clean
returns-clause-clean c =
    let i = c.self.inside in
    let k = left (goal.at.returns-clause-clean c).After-take_back in
    subst (λ (s : Stacked). IsClean (present s)) (sym k.is) (joined_value (reverse c.pop.new.self.items) c.take_back.new.drivers c.take_back.new.next c.take_back.new.feeds i.outputs.items (without_last c.args.self.now) k.stack k.is).clean
