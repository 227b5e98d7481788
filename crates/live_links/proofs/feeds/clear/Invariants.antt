use Rattle.std.proofs.Common.{◌≡◌, vec_len}
use Rattle.live_links.specs.Feeding.{cleared}
use Rattle.live_links.proofs.feeds.clear.Given as goal

abbrev pub invariant-clear : goal.invariant-clear
invariant-clear l = cleared l.fed.items l.feeds ≡ cleared l.initial.fed.items l.initial.feeds

abbrev pub decreases-clear : goal.decreases-clear
decreases-clear l = vec_len l.fed
