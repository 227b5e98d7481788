use Rattle.std.proofs.Common.{◌≡◌, drop}
use Rattle.pin_rules.specs.ReadParts.{read_with}
use Rattle.pin_rules.proofs.read.mark_all.Given as goal

-- the rest, raised over what is raised, is all
abbrev pub invariant-loop-feed : goal.invariant-loop-feed
invariant-loop-feed l = read_with l.read (drop l.feed-index l.feeds) ≡ read_with l.fn.read l.feeds
