use Rattle.std.specs.Option.{option_copied}
use Rattle.graph_names.proofs.SettingsFound.{no_option, option_found}
use Rattle.graph_names.proofs.settings.option_named.Goals as goal

pub returns-in-Some : goal.returns-in-Some
returns-in-Some g c = λ graph is.
    option_found (g.D.TileDatabases.device c.args.device.now) graph c.args.t is c.in-Some.names.now c.args.name.now c.args.value.now (option_copied c.option.result) c.in-Some.ensures c.option.ensures

pub returns-in-None : goal.returns-in-None
returns-in-None g c = λ graph is. no_option (g.D.TileDatabases.device c.args.device.now) graph c.args.t is c.args.name.now c.args.value.now c.in-None.ensures
