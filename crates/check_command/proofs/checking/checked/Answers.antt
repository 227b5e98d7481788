use Rattle.std.proofs.Common.{sym}
use Rattle.check_command.proofs.Answering.{graph_refuses}
use Rattle.check_command.proofs.checking.checked.Goals as goal

pub returns-in-Ok : goal.returns-in-Ok
returns-in-Ok c = c.over_its_graph.ensures (c.in-Ok.ensures.answer c.args.design.now (sym c.device-device.ensures))

pub returns-in-Err : goal.returns-in-Err
returns-in-Err c = graph_refuses c.args.design.now c.in-Err.error c.refused.result (c.in-Err.ensures.answer c.args.design.now (sym c.device-device.ensures)) c.refused.ensures
