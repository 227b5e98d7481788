use Rattle.std.proofs.Common.{◌≡◌, refl}
use Rattle.top_call.specs.Commands.{reading_of_words}
use Rattle.top_call.proofs.Ended.{unread_too}
use Rattle.top_call.proofs.top.reply_to.Goals as goal

pub returns-in-Err-Memory-clause-unread : goal.returns-in-Err-Memory-clause-unread
returns-in-Err-Memory-clause-unread g c = unread_too (reading_of_words c.args.words.now) (c.args.files.now ≡ c.args.files.now) refl
