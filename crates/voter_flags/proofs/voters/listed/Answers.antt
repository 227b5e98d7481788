use Rattle.std.proofs.Common.{◌≡◌, ap}
use Rattle.records.specs.Side.{Voter}
use Rattle.side_file.proofs.Sets.{one_more_voter}
use Rattle.side_file.proofs.Walks.{so_far_plain}
use Rattle.voter_flags.proofs.voters.listed.Goals as goal

pub loop-voter-preserved : goal.loop-voter-preserved
loop-voter-preserved c =
    let voter = c.voter-item.result in
    let slice : c.voter.inside.slice ≡ voter.slice = ap (λ (v : Voter). v.slice) c.voter.view_is in
    let inside : c.voter.inside.table ≡ voter.table = ap (λ (v : Voter). v.table) c.voter.view_is in
    let table : c.from.result ≡ voter.table = cc in
    rw (so_far_plain c.args.voters.now c.loop-voter.voter-index voter c.loop-voter-test.true c.voter-item.is)
    (one_more_voter _ voter _ c.loop-voter.known c.insert.new.self slice table c.loop-voter.invariant c.in_ok-insert.ensures.updates.0)
