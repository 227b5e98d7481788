use Rattle.std.proofs.Common.{◌∙◌}
use Rattle.cell_sites.proofs.Finding.{put_first}
use Rattle.cell_sites.proofs.first_named.put.Goals as goal

pub returns : goal.returns
returns g c = λ items held. put_first g.T.Named.named c.bytes.result c.args.item c.args.first_named.now c.insert.new.self items (c.bytes.ensures.same ∙ c.name.ensures) c.in_ok-insert.ensures.updates.0 held
