use Rattle.std.proofs.Common.{◌≡◌, ℕ, List, Option, None, get_or, sym, ap, subst, ◌∙◌, arith}
use Rattle.std.specs.Prelude.{reverse}
use Rattle.links.specs.Links.{IsClean, Link}
use Rattle.wire_feeds.specs.Walks.{IsFed}
use Rattle.live_links.specs.Joined.{stacked}
use Rattle.live_links.specs.Live.{Stacked, present, with_link}
use Rattle.live_links.proofs.Growing.{on_err}
use Rattle.live_links.proofs.Kept.{Keeps, joined_value, keeps_more, keeps_same, may_grow, source_fed, whole}
use Rattle.live_links.proofs.stack.LinkStack.add.Goals as goal
use Rattle.live_links.proofs.stack.LinkStack.add.Goals.{After-put_on, In_ok-put_on, In_err-put_on}

pub feed_of-feed-requires : goal.feed_of-feed-requires
feed_of-feed-requires c =
    let i = c.self.inside in
    subst (λ (l : Link). IsFed c.deref.result.now l.source) (sym c.link.view_is)
    (source_fed (reverse i.added.items) i.drivers i.next i.feeds.items c.deref.result.now i.outputs.items c.args.self.now c.args.link c.self.invariant c.self.view_is c.requires c.deref.ensures.value)

pub put_on-requires : goal.put_on-requires
put_on-requires c =
    let i = c.self.inside in
    let fed = sym (ap (λ (fs : List (Option ℕ)). get_or fs c.args.link.source None) c.deref.ensures.value) ∙ (sym (ap (λ (l : Link). get_or c.deref.result.now l.source None) c.link.view_is) ∙ c.feed_of-feed.ensures) in
    may_grow (reverse i.added.items) i.drivers i.next i.feeds.items c.deref_mut.result.now i.outputs.items c.args.self.now c.args.link c.feed_of-feed.result c.self.invariant c.self.view_is c.requires fed c.deref_mut.ensures.value

-- where the link is kept
kept : (c : In_ok-put_on) → Keeps c.put_on.new.stack.items c.put_on.new.drivers c.put_on.new.next c.put_on.new.feeds c.self.inside.outputs.items (with_link c.args.self.now c.args.link)
kept c =
    let i = c.self.inside in
    let fed = sym (ap (λ (fs : List (Option ℕ)). get_or fs c.args.link.source None) c.deref.ensures.value) ∙ (sym (ap (λ (l : Link). get_or c.deref.result.now l.source None) c.link.view_is) ∙ c.feed_of-feed.ensures) in
    keeps_more i.added.items c.put_on.new.stack.items i.drivers i.next c.put_on.new.drivers c.put_on.new.next i.feeds.items c.deref_mut.result.now c.put_on.new.feeds i.outputs.items c.args.self.now c.args.link c.feed_of-feed.result
    c.self.invariant c.self.view_is c.requires fed c.deref_mut.ensures.value c.in_ok-put_on.ensures.drivers c.in_ok-put_on.ensures.next c.in_ok-put_on.ensures.grown

-- where memory ran out
same : (c : In_err-put_on) → Keeps c.put_on.new.stack.items c.put_on.new.drivers c.put_on.new.next c.put_on.new.feeds c.self.inside.outputs.items c.args.self.now
same c =
    let i = c.self.inside in
    keeps_same i.added.items c.put_on.new.stack.items i.drivers i.next c.put_on.new.drivers c.put_on.new.next i.feeds.items c.deref_mut.result.now c.put_on.new.feeds i.outputs.items c.args.self.now
    c.self.invariant c.self.view_is c.deref_mut.ensures.value c.in_err-put_on.ensures.err

pub invariant_of-self : goal.invariant_of-self
invariant_of-self c =
    let i = c.self.inside in
    let k = same (goal.at.invariant_of-self c).In_err-put_on in
    rw (whole c.put_on.new.feeds i.feeds.items i.feeds.len (omega arith) (omega arith)) k.stack

pub invariant_of-self-2 : goal.invariant_of-self-2
invariant_of-self-2 c =
    let i = c.self.inside in
    let k = kept (goal.at.invariant_of-self-2 c).In_ok-put_on in
    rw (whole c.put_on.new.feeds i.feeds.items i.feeds.len (omega arith) (omega arith)) k.stack

pub returns-clause-ok : goal.returns-clause-ok
returns-clause-ok c = (kept (goal.at.returns-clause-ok c).In_ok-put_on).is

pub returns-clause-clean : goal.returns-clause-clean
returns-clause-clean c =
    let i = c.self.inside in
    let k = kept (goal.at.returns-clause-clean c).In_ok-put_on in
    subst (λ (s : Stacked). IsClean (present s)) (sym k.is) (joined_value (reverse c.put_on.new.stack.items) c.put_on.new.drivers c.put_on.new.next c.put_on.new.feeds i.outputs.items (with_link c.args.self.now c.args.link) k.stack k.is).clean

pub returns-in_err-put_on-clause-err : goal.returns-in_err-put_on-clause-err
returns-in_err-put_on-clause-err c =
    on_err c.from_residual.result (stacked (reverse c.put_on.new.stack.items) c.put_on.new.drivers c.put_on.new.next c.self.inside.outputs.items ≡ c.args.self.now)
    (same (goal.at.returns-in_err-put_on-clause-err c).In_err-put_on).is

pub returns-in_err-put_on-clause-clean : goal.returns-in_err-put_on-clause-clean
returns-in_err-put_on-clause-clean c =
    let i = c.self.inside in
    let k = same (goal.at.returns-in_err-put_on-clause-clean c).In_err-put_on in
    subst (λ (s : Stacked). IsClean (present s)) (sym k.is) (joined_value (reverse c.put_on.new.stack.items) c.put_on.new.drivers c.put_on.new.next c.put_on.new.feeds i.outputs.items c.args.self.now k.stack k.is).clean
