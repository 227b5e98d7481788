use Rattle.part_triples.proofs.Told.{no_first, no_second, copies_told}
use Rattle.part_triples.proofs.alike.same_parts.Goals as goal

pub returns-in-None : goal.returns-in-None
returns-in-None c = λ side are. no_first side c.args.sources.now c.args.a c.args.b c.in-None.ensures

pub returns-in-None-source_at : goal.returns-in-None-source_at
returns-in-None-source_at c = λ side are. no_second side c.args.sources.now c.args.a c.args.b c.in-None-source_at.ensures

pub returns-in-Some-source_at : goal.returns-in-Some-source_at
returns-in-Some-source_at c = λ side are.
    copies_told side c.args.sources.now c.args.numbers.now c.args.a c.args.b c.in-Some.first.now c.in-Some-source_at.second.now c.number_at-m.result c.number_at-n.result c.same_source.result are
    c.in-Some.ensures c.in-Some-source_at.ensures c.number_at-m.ensures c.number_at-n.ensures c.same_source.ensures
