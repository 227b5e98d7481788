use Rattle.copy_rules.proofs.Differing.{no_source, register_told}
use Rattle.copy_rules.proofs.registers.register_at.Goals as goal

pub returns-in-None : goal.returns-in-None
returns-in-None c = no_source c.args.sources.now c.args.k c.in-None.ensures

pub returns-in-Some : goal.returns-in-Some
returns-in-Some c = register_told c.args.sources.now c.args.k c.in-Some.source.now c.in-Some.ensures c.register_of.result c.register_of.ensures
