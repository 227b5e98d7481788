use Rattle.design_reader.specs.Answers.{bytes_view}
use Rattle.design_reader.proofs.ReadForms.{read_as}
use Rattle.design_reader.proofs.Steps.{file_gives, file_refused}
use Rattle.design_reader.proofs.files.read_file.Goals as goal

pub returns-in-Ok-clause-answer : goal.returns-in-Ok-clause-answer
returns-in-Ok-clause-answer g c = λ told.
    file_gives c.args.name.now c.args.most (g.R.FileReader.reads c.args.name.now) (g.F.Files.file c.args.files.now c.args.name.now) c.in-Ok.there c.read_there.result
    (c.in-Ok.ensures.answer told) c.read_there.ensures

pub returns-in-Err-clause-answer : goal.returns-in-Err-clause-answer
returns-in-Err-clause-answer g c = λ told.
    file_refused c.args.name.now c.args.most (g.R.FileReader.reads c.args.name.now) (g.F.Files.file c.args.files.now c.args.name.now) c.in-Err.error (c.in-Err.ensures.answer told)

pub returns-in-Ok-clause-form : goal.returns-in-Ok-clause-form
returns-in-Ok-clause-form g c =
    read_as c.args.name.now (g.R.FileReader.reads c.args.name.now) (bytes_view c.in-Ok.there) c.read_there.result c.read_there.ensures
