use Rattle.std.proofs.Common.{subst}
use Rattle.std.specs.Prelude.{Err}
use Rattle.answers.specs.Refusals.{TooLong}
use Rattle.outside.specs.Whole.{Answers, whole_of}
use Rattle.outside.specs.declared.whole.WholeError.{WholeError}
use Rattle.design_reader.specs.Answers.{IsName, short_file}
use Rattle.design_reader.proofs.Refused.{refuses, refuses_unread}
use Rattle.design_reader.proofs.Whole.{file_there, file_missing, file_long}
use Rattle.design_reader.proofs.files.bytes_if_there.Goals as goal

pub returns-in-Ok-clause-answer : goal.returns-in-Ok-clause-answer
returns-in-Ok-clause-answer g c = λ told.
    file_there c.args.name.now c.args.most (g.F.Files.file c.args.files.now c.args.name.now) c.in-Ok.bytes.items (c.in-Ok.ensures.answer told)

pub returns-in-Err-Missing-clause-answer : goal.returns-in-Err-Missing-clause-answer
returns-in-Err-Missing-clause-answer g c = λ told.
    let file = g.F.Files.file c.args.files.now c.args.name.now in
    file_missing c.args.name.now c.args.most file
    (subst (λ (w : WholeError). Answers (Err w) (whole_of file c.args.most)) c.in-Err-Missing.field-0-is (c.in-Err-Missing.ensures.answer told))

pub returns-in-Err-TooLong-clause-answer : goal.returns-in-Err-TooLong-clause-answer
returns-in-Err-TooLong-clause-answer g c = λ told.
    let file = g.F.Files.file c.args.files.now c.args.name.now in
    refuses (short_file c.args.name.now c.args.most file) (IsName c.args.name.now) (TooLong c.args.name.now) c.too_long.result
    (file_long c.args.name.now c.args.most file
    (subst (λ (w : WholeError). Answers (Err w) (whole_of file c.args.most)) c.in-Err-TooLong.field-0-is (c.in-Err-TooLong.ensures.answer told)))
    c.too_long.ensures

pub returns-in-Err-ReadFault-clause-answer : goal.returns-in-Err-ReadFault-clause-answer
returns-in-Err-ReadFault-clause-answer g c = λ told.
    refuses_unread (short_file c.args.name.now c.args.most (g.F.Files.file c.args.files.now c.args.name.now)) c.args.name.now c.unread.result c.unread.ensures
