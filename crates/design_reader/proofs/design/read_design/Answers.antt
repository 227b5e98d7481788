use Rattle.std.proofs.Common.{◌≡◌, sym, ap, subst, ◌∙◌, rules}
use Rattle.std.specs.Prelude.{Result, Err}
use Rattle.std.proofs.lemmas.Result.{err_from_is_err_and}
use Rattle.records.specs.Config.{Config}
use Rattle.commands.specs.Commands.{Inputs}
use Rattle.design_files.specs.Parsed.{Files, form_refusal, side_refusal}
use Rattle.design_files.specs.Designs.{Design, design_of}
use Rattle.run_ends.specs.Reads.{IsReached}
use Rattle.design_reader.specs.declared.errors.FileError.{FileError}
use Rattle.design_reader.specs.Answers.{Gives}
use Rattle.json_forms.specs.Profile.{profile_of}
use Rattle.side_form.specs.Side.{side_of}
use Rattle.design_reader.proofs.ReadForms.{not_refused}
use Rattle.design_reader.proofs.Refused.{counts_behind}
use Rattle.design_reader.proofs.Designs.{config_refused, grid_refused, profile_refused, side_refused, databases_refused, read_whole}
use Rattle.design_reader.proofs.design.read_design.Goals as goal

pub returns-in_err-config-clause-answer : goal.returns-in_err-config-clause-answer
returns-in_err-config-clause-answer g c = λ told.
    let files : Files = g.F.Files.file c.args.files.now in
    let inputs : Inputs = record { family = c.inputs.inside.family.now; profile = c.inputs.inside.profile.now; side = c.inputs.inside.side.now; config = c.inputs.inside.config.now } in
    let e : FileError = c.in_err-config.field-0.0 in
    let is : c.from_residual.result ≡ Err e = search rules in
    subst (Gives (λ d. d) (design_of files c.args.inputs.now) (IsReached files c.args.inputs.now)) (sym is)
    (config_refused files files files files files inputs c.args.inputs.now c.inputs.view_is e (c.in_err-config.ensures.answer told))

pub returns-in_err-grid-clause-answer : goal.returns-in_err-grid-clause-answer
returns-in_err-grid-clause-answer g c = λ told.
    let files : Files = g.F.Files.file c.args.files.now in
    let inputs : Inputs = record { family = c.inputs.inside.family.now; profile = c.inputs.inside.profile.now; side = c.inputs.inside.side.now; config = c.inputs.inside.config.now } in
    let told_config = c.in_ok-config.ensures.told told in
    let e : FileError = c.in_err-grid.field-0.0 in
    let is : c.from_residual-in_err-grid.result ≡ Err e = search rules in
    subst (Gives (λ d. d) (design_of files c.args.inputs.now) (IsReached files c.args.inputs.now)) (sym is)
    (grid_refused files _ files files files inputs c.args.inputs.now c.inputs.view_is c.in_ok-config.config c.config.inside.device (c.in_ok-config.ensures.answer told) c.in_ok-config.ensures.content (ap (λ (k : Config). k.device) c.config.view_is) e (c.in_err-grid.ensures.answer told_config))

pub returns-in_err-profile-clause-answer : goal.returns-in_err-profile-clause-answer
returns-in_err-profile-clause-answer g c = λ told.
    let files : Files = g.F.Files.file c.args.files.now in
    let inputs : Inputs = record { family = c.inputs.inside.family.now; profile = c.inputs.inside.profile.now; side = c.inputs.inside.side.now; config = c.inputs.inside.config.now } in
    let told_config = c.in_ok-config.ensures.told told in
    let told_grid = c.in_ok-grid.ensures.told told_config in
    let e : FileError = c.in_err-profile.field-0.0 in
    let is : c.from_residual-in_err-profile.result ≡ Err e = search rules in
    subst (Gives (λ d. d) (design_of files c.args.inputs.now) (IsReached files c.args.inputs.now)) (sym is)
    (profile_refused files _ _ files files inputs c.args.inputs.now c.inputs.view_is c.in_ok-config.config c.config.inside.device (c.in_ok-config.ensures.answer told) c.in_ok-config.ensures.content (ap (λ (k : Config). k.device) c.config.view_is) c.in_ok-grid.grid (c.in_ok-grid.ensures.answer told_config) c.in_ok-grid.ensures.content e (c.in_err-profile.ensures.answer told_grid))

pub returns-in_err-side-clause-answer : goal.returns-in_err-side-clause-answer
returns-in_err-side-clause-answer g c = λ told.
    let files : Files = g.F.Files.file c.args.files.now in
    let inputs : Inputs = record { family = c.inputs.inside.family.now; profile = c.inputs.inside.profile.now; side = c.inputs.inside.side.now; config = c.inputs.inside.config.now } in
    let told_config = c.in_ok-config.ensures.told told in
    let told_grid = c.in_ok-grid.ensures.told told_config in
    let told_profile = c.in_ok-profile.ensures.told told_grid in
    let e : FileError = c.in_err-side.field-0.0 in
    let is : c.from_residual-in_err-side.result ≡ Err e = search rules in
    subst (Gives (λ d. d) (design_of files c.args.inputs.now) (IsReached files c.args.inputs.now)) (sym is)
    (side_refused files _ _ _ files inputs c.args.inputs.now c.inputs.view_is c.in_ok-config.config c.config.inside.device (c.in_ok-config.ensures.answer told) c.in_ok-config.ensures.content (ap (λ (k : Config). k.device) c.config.view_is) c.in_ok-grid.grid (c.in_ok-grid.ensures.answer told_config) c.in_ok-grid.ensures.content c.in_ok-profile.profile (c.in_ok-profile.ensures.answer told_grid) c.in_ok-profile.ensures.content e (c.in_err-side.ensures.answer told_profile))

pub returns-in_err-databases-clause-answer : goal.returns-in_err-databases-clause-answer
returns-in_err-databases-clause-answer g c = λ told.
    let files : Files = g.F.Files.file c.args.files.now in
    let inputs : Inputs = record { family = c.inputs.inside.family.now; profile = c.inputs.inside.profile.now; side = c.inputs.inside.side.now; config = c.inputs.inside.config.now } in
    let told_config = c.in_ok-config.ensures.told told in
    let told_grid = c.in_ok-grid.ensures.told told_config in
    let told_profile = c.in_ok-profile.ensures.told told_grid in
    let told_side = c.in_ok-side.ensures.told told_profile in
    let e : FileError = c.in_err-databases.field-0.0 in
    let p = err_from_is_err_and c.from_residual-in_err-databases.result c.from_residual-in_err-databases.ensures.1 in
    let is : c.from_residual-in_err-databases.result ≡ Err e = p.1 ∙ ap (λ (y : FileError). let r : Result Design FileError = Err y in r) p.2 in
    subst (Gives (λ d. d) (design_of files c.args.inputs.now) (IsReached files c.args.inputs.now)) (sym is)
    (databases_refused files _ _ _ _ inputs c.args.inputs.now c.inputs.view_is c.in_ok-config.config c.config.inside.device (c.in_ok-config.ensures.answer told) c.in_ok-config.ensures.content (ap (λ (k : Config). k.device) c.config.view_is) c.in_ok-grid.grid (c.in_ok-grid.ensures.answer told_config) c.in_ok-grid.ensures.content c.in_ok-profile.profile (c.in_ok-profile.ensures.answer told_grid) c.in_ok-profile.ensures.content c.in_ok-side.side (c.in_ok-side.ensures.answer told_profile) c.in_ok-side.ensures.content e (c.in_err-databases.ensures.answer told_side))

pub returns-in_err-databases-clause-reads : goal.returns-in_err-databases-clause-reads
returns-in_err-databases-clause-reads g c =
    let e : FileError = c.in_err-databases.field-0.0 in
    let p = err_from_is_err_and c.from_residual-in_err-databases.result c.from_residual-in_err-databases.ensures.1 in
    let is : c.from_residual-in_err-databases.result ≡ Err e = p.1 ∙ ap (λ (y : FileError). let r : Result Design FileError = Err y in r) p.2 in
    counts_behind c.from_residual-in_err-databases.result e _ (g.F.Files.read_faults c.args.files.now) _ is
    (c.in_ok-side.ensures.reads ∙ c.in_ok-profile.ensures.reads ∙ c.in_ok-grid.ensures.reads ∙ c.in_ok-config.ensures.reads) c.in_err-databases.ensures.reads

pub returns-clause-answer : goal.returns-clause-answer
returns-clause-answer g c = λ told.
    let files : Files = g.F.Files.file c.args.files.now in
    let inputs : Inputs = record { family = c.inputs.inside.family.now; profile = c.inputs.inside.profile.now; side = c.inputs.inside.side.now; config = c.inputs.inside.config.now } in
    let told_config = c.in_ok-config.ensures.told told in
    let told_grid = c.in_ok-grid.ensures.told told_config in
    let told_profile = c.in_ok-profile.ensures.told told_grid in
    let told_side = c.in_ok-side.ensures.told told_profile in
    read_whole files _ _ _ _ inputs c.args.inputs.now c.inputs.view_is c.in_ok-config.config c.config.inside.device (c.in_ok-config.ensures.answer told) c.in_ok-config.ensures.content (ap (λ (k : Config). k.device) c.config.view_is) c.in_ok-grid.grid (c.in_ok-grid.ensures.answer told_config) c.in_ok-grid.ensures.content c.in_ok-profile.profile (c.in_ok-profile.ensures.answer told_grid) c.in_ok-profile.ensures.content c.in_ok-side.side (c.in_ok-side.ensures.answer told_profile) c.in_ok-side.ensures.content
    c.in_ok-databases.databases (c.in_ok-databases.ensures.answer told_side)

pub returns-clause-device : goal.returns-clause-device
returns-clause-device g c =
    let read = c.in_ok-profile.ensures.form in
    record {
      grid = c.in_ok-grid.ensures.form;
      types = c.in_ok-databases.ensures.form;
      profile = (read.0, not_refused (form_refusal c.inputs.inside.profile.now) (profile_of read.0) c.in_ok-profile.profile read.1);
    }

pub returns-clause-side : goal.returns-clause-side
returns-clause-side g c =
    let read = c.in_ok-side.ensures.form in
    (read.0, not_refused (side_refusal c.inputs.inside.side.now) (side_of read.0) c.in_ok-side.side read.1)
