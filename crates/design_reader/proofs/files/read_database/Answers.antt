use Rattle.std.proofs.Common.{ℕ, List, subst, ◌∙◌}
use Rattle.design_files.specs.Designs.{database_in}
use Rattle.design_reader.specs.Answers.{Gives, IsName}
use Rattle.design_reader.proofs.files.read_database.Goals as goal

pub returns-clause-answer : goal.returns-clause-answer
returns-clause-answer g c = λ told.
    let P : List ℕ → Type 0 = λ name. Gives (λ database. database) (database_in name (g.F.Files.file c.args.files.now name)) (IsName name) c.database_in.result in
    subst P (c.as_str.ensures.value ∙ c.in_ok-name.ensures) (c.database_in.ensures.answer told)
