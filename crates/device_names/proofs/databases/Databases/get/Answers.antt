use Rattle.std.proofs.Common.{ap, sym, ◌∙◌, option_map}
use Rattle.device_names.specs.Types.{type_named}
use Rattle.device_names.proofs.ByType.{found_db}
use Rattle.device_names.proofs.databases.Databases.get.Goals as goal

pub returns : goal.returns
returns c =
    c.get.ensures.value
    ∙ sym (found_db c.self.inside.by_type.entries c.args.kind.now)
    ∙ ap (λ types. option_map (λ t. t.db) (type_named types c.args.kind.now)) c.self.view_is
