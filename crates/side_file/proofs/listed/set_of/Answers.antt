use Rattle.std.proofs.Common.{refl}
use Rattle.side_file.proofs.Sets.{one_more_name}
use Rattle.side_file.proofs.Walks.{so_far}
use Rattle.side_file.proofs.listed.set_of.Goals as goal

pub loop-name-preserved : goal.loop-name-preserved
loop-name-preserved c =
    rw (so_far (λ n. n.now) c.args.names.now c.loop-name.name-index c.name-item.result c.loop-name-test.true c.name-item.is)
    (one_more_name _ c.name-item.result.now (c.digest.result, c.name-item.result.now) c.loop-name.set c.insert.new.self c.digest.ensures refl c.loop-name.invariant c.in_ok-insert.ensures.updates.0)
