use Rattle.std.proofs.Common.{ℕ, List, subst, ◌∙◌}
use Rattle.records.specs.Limits.{most_json_bytes}
use Rattle.design_files.specs.Parsed.{parsed, read_grid}
use Rattle.design_reader.specs.Answers.{Gives, IsName}
use Rattle.design_reader.proofs.ReadForms.{grid_read}
use Rattle.design_reader.proofs.files.read_grid.Goals as goal

pub returns-clause-answer : goal.returns-clause-answer
returns-clause-answer g c = λ told.
    let P : List ℕ → Type 0 = λ name. Gives (λ grid. grid) (parsed name most_json_bytes (read_grid name) (g.F.Files.file c.args.files.now name)) (IsName name) c.read_file.result in
    subst P (c.as_str.ensures.value ∙ c.in_ok-name.ensures) (c.read_file.ensures.answer told)

pub returns-clause-form : goal.returns-clause-form
returns-clause-form g c = grid_read c.as_str.result.now c.read_file.result c.read_file.ensures.form
