use Rattle.design_reader.specs.Answers.{bytes_view}
use Rattle.design_reader.proofs.ReadForms.{database_read}
use Rattle.design_reader.proofs.Steps.{database_gives, database_refused}
use Rattle.design_reader.proofs.files.database_in.Goals as goal

pub returns-in-Ok-clause-answer : goal.returns-in-Ok-clause-answer
returns-in-Ok-clause-answer g c = λ told.
    database_gives c.args.name.now (g.F.Files.file c.args.files.now c.args.name.now) c.in-Ok.there c.database_there.result (c.in-Ok.ensures.answer told) c.database_there.ensures

pub returns-in-Err-clause-answer : goal.returns-in-Err-clause-answer
returns-in-Err-clause-answer g c = λ told.
    database_refused c.args.name.now (g.F.Files.file c.args.files.now c.args.name.now) c.in-Err.error (c.in-Err.ensures.answer told)

pub returns-in-Ok-clause-form : goal.returns-in-Ok-clause-form
returns-in-Ok-clause-form g c = database_read c.args.name.now (bytes_view c.in-Ok.there) c.database_there.result c.database_there.ensures
