use Rattle.std.proofs.Common.{subst}
use Rattle.copy_rules.specs.Copies.{NoRegisterAt}
use Rattle.copy_rules.specs.Fields.{field_of}
use Rattle.copy_rules.proofs.Differing.{not_first, not_second}
use Rattle.copy_rules.proofs.registers.differs_at.Goals as goal

pub returns-in-None : goal.returns-in-None
returns-in-None c = λ circuit shows.
    not_first c.args.parts.now circuit shows.cells_are (field_of c.args.field) c.args.pair.now.first c.args.pair.now.second
    (subst (λ all. NoRegisterAt all c.args.pair.now.first) c.sources.ensures.all c.in-None.ensures)

pub returns-in-None-register_at : goal.returns-in-None-register_at
returns-in-None-register_at c = λ circuit shows.
    not_second c.args.parts.now circuit shows.cells_are (field_of c.args.field) c.args.pair.now.first c.args.pair.now.second
    (subst (λ all. NoRegisterAt all c.args.pair.now.second) c.sources-in-Some.ensures.all c.in-None-register_at.ensures)
