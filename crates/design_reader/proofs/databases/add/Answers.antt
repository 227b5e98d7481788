use Rattle.design_reader.proofs.Rising.{put_on_ok}
use Rattle.design_reader.proofs.databases.add.Goals as goal

pub returns : goal.returns
returns c =
    put_on_ok c.insert.result c.args.databases.now c.insert.new.self c.args.kind.now c.in_ok-name.name c.args.database c.in_ok-name.ensures c.requires
    c.insert.ensures.there c.insert.ensures.others c.insert.ensures.order
