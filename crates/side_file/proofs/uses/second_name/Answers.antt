use Rattle.std.proofs.Common.{refl, sym, ◌∙◌}
use Rattle.side_form.specs.Side.{DuplicateName, entry_fault}
use Rattle.side_file.proofs.Again.{entry_used, entry_is_new}
use Rattle.side_file.proofs.Sets.{one_more_name}
use Rattle.side_file.proofs.Walks.{so_far, left, faulty, faultless}
use Rattle.side_file.proofs.uses.second_name.Goals as goal

pub returns-then-not-branch : goal.returns-then-not-branch
returns-then-not-branch c =
    let name = c.name-item.result.now in
    faulty entry_fault _ _ _ name _ (DuplicateName name) c.loop-name.invariant.rest
    (left (λ n. n.now) c.args.names.now c.loop-name.name-index c.name-item.result c.loop-name-test.true c.name-item.is)
    (entry_used _ name c.loop-name.known c.loop-name.invariant.names (sym (rw c.digest.ensures at c.in_ok-insert.ensures.added) ∙ c.if-not-branch.true))

pub loop-name-preserved : goal.loop-name-preserved
loop-name-preserved c =
    let name = c.name-item.result.now in
    rw (so_far (λ n. n.now) c.args.names.now c.loop-name.name-index c.name-item.result c.loop-name-test.true c.name-item.is)
    (record {
      names = one_more_name _ c.name-item.result.now (c.digest.result, c.name-item.result.now) c.loop-name.known c.insert.new.self c.digest.ensures refl c.loop-name.invariant.names c.in_ok-insert.ensures.updates.0;
      rest =
          faultless entry_fault _ _ _ name _ c.loop-name.invariant.rest
          (left (λ n. n.now) c.args.names.now c.loop-name.name-index c.name-item.result c.loop-name-test.true c.name-item.is)
          (entry_is_new _ name c.loop-name.known c.loop-name.invariant.names (sym (rw c.digest.ensures at c.in_ok-insert.ensures.added) ∙ c.if-not-branch.false));
    })
