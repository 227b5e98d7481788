use Rattle.std.proofs.Common.{take}
use Rattle.voter_flags.specs.Listed.{ListsVoters}
use Rattle.voter_flags.proofs.voters.listed.Given as goal

-- the voters so far are in the set
abbrev pub invariant-loop-voter : goal.invariant-loop-voter
invariant-loop-voter l = ListsVoters l.known (take l.voter-index l.voters)
