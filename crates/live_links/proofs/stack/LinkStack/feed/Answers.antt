use Rattle.std.proofs.Common.{ℕ, List, Option, None, ◌∙◌, ap, get_or, sym}
use Rattle.std.specs.Prelude.{reverse}
use Rattle.live_links.proofs.Kept.{feed_tells, joined_value}
use Rattle.live_links.specs.Live.{present}
use Rattle.live_links.proofs.stack.LinkStack.feed.Goals as goal

pub returns-clause-feed : goal.returns-clause-feed
returns-clause-feed c =
    let i = c.self.inside in
    let j = joined_value (reverse i.added.items) i.drivers i.next i.feeds.items i.outputs.items c.args.self.now c.self.invariant c.self.view_is in
    feed_tells (present c.args.self.now) i.feeds.items c.args.w c.feed_or_none.result j.feeds_are (sym (c.feed_or_none.ensures ∙ ap (λ (fs : List (Option ℕ)). get_or fs c.args.w None) c.deref.ensures.value))

pub returns-clause-clean : goal.returns-clause-clean
returns-clause-clean c =
    let i = c.self.inside in
    (joined_value (reverse i.added.items) i.drivers i.next i.feeds.items i.outputs.items c.args.self.now c.self.invariant c.self.view_is).clean
