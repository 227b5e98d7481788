use Rattle.std.proofs.Common.{◌≡◌, ◌++◌, drop, map}
use Rattle.voter_flags.specs.Listed.{is_listed}
use Rattle.voter_flags.proofs.voters.flags.Given as goal

-- the flags so far, with those of the parts that are left, are all
abbrev pub invariant-loop-source : goal.invariant-loop-source
invariant-loop-source l = l.flags.items ++ map (λ s. is_listed l.known s.part) (drop l.source-index l.sources) ≡ map (λ s. is_listed l.known s.part) l.sources
