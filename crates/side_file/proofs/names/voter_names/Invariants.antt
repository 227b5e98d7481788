use Rattle.std.proofs.Common.{◌≡◌, map, take}
use Rattle.side_file.proofs.names.voter_names.Given as goal

-- the names so far
abbrev pub invariant-loop-voter : goal.invariant-loop-voter
invariant-loop-voter l = map (λ n. n.now) l.names.items ≡ map (λ voter. voter.slice) (take l.voter-index l.voters)
