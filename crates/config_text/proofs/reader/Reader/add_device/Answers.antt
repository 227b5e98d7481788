use Rattle.std.proofs.Common.{◌∙◌, sym}
use Rattle.config_text.proofs.Devices.{first_device}
use Rattle.config_text.proofs.reader.Reader.add_device.Goals as goal

pub returns-clause-step : goal.returns-clause-step
returns-clause-step c =
    let self = c.args.self.now in
    first_device c.args.number self.device self.heads self.sections.sections c.args.name.now c.in_ok-of_bytes.field-0 (sym c.is_some.ensures ∙ c.if-is_some.false) c.in_ok-of_bytes.ensures
