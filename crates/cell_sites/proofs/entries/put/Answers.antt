use Rattle.cell_sites.proofs.Finding.{put_name}
use Rattle.cell_sites.proofs.entries.put.Goals as goal

pub returns : goal.returns
returns c = λ others held. put_name c.bytes.result c.args.name.now c.args.names.now c.insert.new.self others c.bytes.ensures.same c.in_ok-insert.ensures.updates.0 held
