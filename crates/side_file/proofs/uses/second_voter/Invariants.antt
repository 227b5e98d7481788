use Rattle.std.proofs.Common.{◌≡◌, take, drop}
use Rattle.words.specs.Firsts.{first_fault_after, first_fault}
use Rattle.side_form.specs.Side.{voter_fault}
use Rattle.side_file.specs.Known.{KnowsVoters}
use Rattle.side_file.proofs.uses.second_voter.Given as goal

-- the voters so far are known, and the first fault is among those that are left
abbrev pub invariant-loop-voter : goal.invariant-loop-voter
invariant-loop-voter l = record {
  voters : KnowsVoters l.known (take l.voter-index l.voters);
  rest : first_fault_after voter_fault (take l.voter-index l.voters) (drop l.voter-index l.voters) ≡ first_fault voter_fault l.voters;
}
