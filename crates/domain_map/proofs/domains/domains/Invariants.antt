use Rattle.std.proofs.Common.{◌≡◌, ◌++◌, drop, map, option_map}
use Rattle.rr_ids.specs.Domains.{domain_of}
use Rattle.domain_map.specs.Labels.{domain_by}
use Rattle.domain_map.proofs.domains.domains.Given as goal

-- the domains so far, and those of the feeds that are left
abbrev pub invariant-loop-feed : goal.invariant-loop-feed
invariant-loop-feed l = map (option_map domain_of) l.domains.items ++ map (domain_by l.sources l.parts) (drop l.feed-index l.feeds) ≡ map (domain_by l.sources l.parts) l.feeds
