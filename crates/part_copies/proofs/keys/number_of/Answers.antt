use Rattle.std.proofs.Common.{ap, ◌∙◌}
use Rattle.part_triples.specs.Places.{place_in}
use Rattle.part_copies.proofs.Keyed.{name_there, name_new}
use Rattle.part_copies.proofs.keys.number_of.Goals as goal

pub returns-in-Some : goal.returns-in-Some
returns-in-Some c = name_there c.args.name.now c.args.place c.in-Some.number.now c.args.cells.now (c.in-Some.ensures.value ∙ ap (place_in c.args.cells.now) c.bytes.ensures.same)

pub returns-in_ok-insert-in-None : goal.returns-in_ok-insert-in-None
returns-in_ok-insert-in-None c =
    name_new c.bytes-in-None.result c.args.name.now c.args.place c.args.cells.now c.insert.new.self c.bytes-in-None.ensures.same
    (c.in-None.ensures.value ∙ ap (place_in c.args.cells.now) c.bytes.ensures.same) c.in_ok-insert-in-None.ensures.updates.0
