use Rattle.top_call.proofs.Ended.{unread_proper}
use Rattle.top_call.proofs.top.reply_to_file.Goals as goal

pub returns-in-Err-ReadFault-clause-proper : goal.returns-in-Err-ReadFault-clause-proper
returns-in-Err-ReadFault-clause-proper g c = λ told. unread_proper (g.F.Files.file c.args.files.now) c.args.name.now c.args.bits.now c.unread.result c.unread.ensures
