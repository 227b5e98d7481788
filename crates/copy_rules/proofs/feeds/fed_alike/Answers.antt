use Rattle.std.proofs.Common.{get_or, None, ap, ◌∙◌}
use Rattle.copy_rules.proofs.Fed.{alike_told}
use Rattle.copy_rules.proofs.feeds.fed_alike.Goals as goal

pub returns : goal.returns
returns c = λ circuit shows x y at_x at_y.
    alike_told c.args.parts.now c.args.feeds.now c.args.triples.now c.args.p c.args.q c.feed_at-first.result c.feed_at-second.result c.same_feed.result circuit shows
    (c.feed_at-first.ensures ∙ ap (λ i. get_or c.args.feeds.now i None) c.to_u32.ensures) (c.feed_at-second.ensures ∙ ap (λ i. get_or c.args.feeds.now i None) c.to_u32-2.ensures) c.same_feed.ensures x y at_x at_y
