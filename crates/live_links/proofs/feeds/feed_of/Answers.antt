use Rattle.std.proofs.Common.{◌∙◌, sym}
use Rattle.live_links.proofs.Kept.{some_is}
use Rattle.live_links.proofs.feeds.feed_of.Goals as goal

pub unwrap-requires : goal.unwrap-requires
unwrap-requires c = some_is c.feed_or_none.result c.requires.0 (c.feed_or_none.ensures ∙ c.requires.1)

pub returns : goal.returns
returns c = sym c.feed_or_none.ensures ∙ c.unwrap.ensures
