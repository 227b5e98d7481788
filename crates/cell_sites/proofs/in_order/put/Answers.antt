use Rattle.std.proofs.Common.{◌∙◌}
use Rattle.cell_sites.proofs.Putting.{put_holds}
use Rattle.cell_sites.proofs.in_order.put.Goals as goal

pub returns : goal.returns
returns g c = λ items held. put_holds g.T.Named.named c.bytes.result c.args.place c.args.item c.args.by_name.now.entries c.insert.new.self.entries items c.in_ok-insert.ensures.entries (c.bytes.ensures.same ∙ c.name.ensures) held
