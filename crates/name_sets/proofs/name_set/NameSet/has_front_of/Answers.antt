use Rattle.std.proofs.Common.{sym, arith}
use Rattle.name_sets.proofs.Fronts.{front_found, no_front}
use Rattle.name_sets.proofs.name_set.NameSet.has_front_of.Goals as goal

pub returns-then-contains : goal.returns-then-contains
returns-then-contains c = sym (front_found c.args.bytes.now _ (omega arith) c.args.self.now (sym c.if-contains.ensures))

pub returns : goal.returns
returns c = sym (no_front c.args.bytes.now c.args.self.now (λ end within. c.loop-end.invariant end (omega arith)))
