use Rattle.std.proofs.Common.{sym, ap, ◌∙◌}
use Rattle.part_triples.specs.Places.{place_in}
use Rattle.part_triples.proofs.Adding.{name_added, name_stays}
use Rattle.part_triples.proofs.names.add_name.Goals as goal

pub returns-in_ok-insert-in-None : goal.returns-in_ok-insert-in-None
returns-in_ok-insert-in-None c =
    name_added c.bytes-in-None.result c.args.name.now c.args.place c.args.places.now c.insert.new.self c.bytes-in-None.ensures.same
    (ap (place_in c.args.places.now) (sym c.bytes.ensures.same) ∙ sym c.in-None.ensures.value) c.in_ok-insert-in-None.ensures.updates.0
