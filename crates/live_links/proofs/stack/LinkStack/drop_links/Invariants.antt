use Rattle.std.proofs.Common.{◌≡◌}
use Rattle.live_links.specs.Live.{without_links}
use Rattle.live_links.proofs.stack.LinkStack.drop_links.Given as goal

abbrev pub invariant-loop-done : goal.invariant-loop-done
invariant-loop-done l = l.self ≡ without_links l._done l.initial.self
