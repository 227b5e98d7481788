use Rattle.copy_rules.proofs.Taken.{fed_at}
use Rattle.copy_rules.proofs.inputs.fed_alike_at.Goals as goal

pub returns : goal.returns
returns c = λ circuit shows.
    fed_at c.args.parts.now c.args.feeds.now c.args.triples.now c.args.pair.now.first c.args.pair.now.second c.args.number c.feed_of-first.result c.feed_of-second.result c.same_feed.result
    c.feed_of-first.ensures c.feed_of-second.ensures c.same_feed.ensures circuit shows
