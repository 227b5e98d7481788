use Rattle.std.proofs.Common.{ap, ◌∙◌}
use Rattle.device_names.specs.Types.{type_named}
use Rattle.device_names.proofs.ByType.{in_name_order, found_there, found_others}
use Rattle.device_names.proofs.databases.Databases.insert.Goals as goal

pub invariant_of-self-2 : goal.invariant_of-self-2
invariant_of-self-2 c = in_name_order c.insert.new.self.entries c.in_ok-insert.ensures.ordered

pub returns-clause-there : goal.returns-clause-there
returns-clause-there c = found_there c.self.inside.by_type.entries c.insert.new.self.entries c.args.kind c.args.db c.in_ok-insert.ensures.updates.0

pub returns-clause-others : goal.returns-clause-others
returns-clause-others c = λ other apart.
    found_others c.self.inside.by_type.entries c.insert.new.self.entries c.args.kind c.args.db c.in_ok-insert.ensures.updates.0 other apart
    ∙ ap (λ types. type_named types other) c.self.view_is

pub returns-clause-order : goal.returns-clause-order
returns-clause-order c = in_name_order c.insert.new.self.entries c.in_ok-insert.ensures.ordered
