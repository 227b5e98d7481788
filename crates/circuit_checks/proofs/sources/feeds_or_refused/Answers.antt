use Rattle.circuit_checks.proofs.Feeding.{feeds_pass}
use Rattle.circuit_checks.proofs.sources.feeds_or_refused.Goals as goal

pub returns-in-Ok-clause-answer : goal.returns-in-Ok-clause-answer
returns-in-Ok-clause-answer g c = λ circuit same within clean fed.
    let are = c.in-Ok.ensures.answer circuit same clean fed in
    (are, feeds_pass (g.G.NamedGraph.graph c.args.graph.now) circuit c.in-Ok.of_pins.items clean are)
