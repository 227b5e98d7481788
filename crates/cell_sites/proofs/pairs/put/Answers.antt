use Rattle.std.proofs.Common.{◌∙◌}
use Rattle.cell_sites.proofs.Pairing.{put_holds}
use Rattle.cell_sites.proofs.pairs.put.Goals as goal

pub returns : goal.returns
returns g c = λ items held. put_holds g.T.Paired.first g.T.Paired.second (c.bytes.result, c.bytes-2.result) c.args.item c.args.by_pair.now c.insert.new.self items (c.bytes.ensures.same ∙ c.first.ensures) (c.bytes-2.ensures.same ∙ c.second.ensures) c.in_ok-insert.ensures.updates.0 held
