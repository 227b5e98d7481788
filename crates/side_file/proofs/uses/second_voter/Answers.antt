use Rattle.std.proofs.Common.{◌≡◌, ap, sym, ◌∙◌}
use Rattle.records.specs.Side.{Voter}
use Rattle.side_form.specs.Side.{DuplicateName, voter_fault}
use Rattle.side_file.proofs.Again.{voter_used, voter_is_new}
use Rattle.side_file.proofs.Sets.{one_more_voter}
use Rattle.side_file.proofs.Walks.{so_far_plain, left_plain, faulty, faultless}
use Rattle.side_file.proofs.uses.second_voter.Goals as goal

pub returns-then-not-branch : goal.returns-then-not-branch
returns-then-not-branch c =
    let voter = c.voter-item.result in
    let slice : c.voter.inside.slice ≡ voter.slice = ap (λ (v : Voter). v.slice) c.voter.view_is in
    let table : c.voter.inside.table ≡ voter.table = ap (λ (v : Voter). v.table) c.voter.view_is in
    let added = rw (slice, table) at c.in_ok-insert.ensures.added in
    rw slice
    (faulty voter_fault _ _ _ voter _ (DuplicateName voter.slice) c.loop-voter.invariant.rest
    (left_plain c.args.voters.now c.loop-voter.voter-index voter c.loop-voter-test.true c.voter-item.is)
    (voter_used _ voter c.loop-voter.known c.loop-voter.invariant.voters (sym added ∙ c.if-not-branch.true)))

pub loop-voter-preserved : goal.loop-voter-preserved
loop-voter-preserved c =
    let voter = c.voter-item.result in
    let slice : c.voter.inside.slice ≡ voter.slice = ap (λ (v : Voter). v.slice) c.voter.view_is in
    let table : c.voter.inside.table ≡ voter.table = ap (λ (v : Voter). v.table) c.voter.view_is in
    let added = rw (slice, table) at c.in_ok-insert.ensures.added in
    rw (so_far_plain c.args.voters.now c.loop-voter.voter-index voter c.loop-voter-test.true c.voter-item.is)
    (record {
      voters = one_more_voter _ voter _ c.loop-voter.known c.insert.new.self slice table c.loop-voter.invariant.voters c.in_ok-insert.ensures.updates.0;
      rest =
          faultless voter_fault _ _ _ voter _ c.loop-voter.invariant.rest (left_plain c.args.voters.now c.loop-voter.voter-index voter c.loop-voter-test.true c.voter-item.is)
          (voter_is_new _ voter c.loop-voter.known c.loop-voter.invariant.voters (sym added ∙ c.if-not-branch.false));
    })
