use Rattle.std.proofs.Common.{ap}
use Rattle.std.specs.Option.{option_to_list}
use Rattle.config_text.specs.Sayings.{saying_view}
use Rattle.config_text.proofs.Whole.{line_said}
use Rattle.config_text.proofs.reader.Reader.add.Goals as goal

pub returns-in-InTile-clause-step : goal.returns-in-InTile-clause-step
returns-in-InTile-clause-step c =
    let self = c.args.self.now in
    line_said c.args.number (saying_view c.args.saying) c.in-InTile.line (option_to_list self.device) self.heads self.sections.sections _ _ (ap saying_view c.in-InTile.is) c.add_line.ensures.sections
