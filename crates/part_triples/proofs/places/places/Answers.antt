use Rattle.std.proofs.Common.{ap, ◌∙◌, Bor}
use Rattle.records.specs.Side.{Triple}
use Rattle.circuit.specs.Triples.{is_entry}
use Rattle.part_triples.specs.Places.{or_place, place_in}
use Rattle.part_triples.proofs.Adding.{places_more}
use Rattle.part_triples.proofs.places.places.Goals as goal

-- one triple more
pub loop-place-preserved : goal.loop-place-preserved
loop-place-preserved c =
    places_more c.args.triples.now c.loop-place.place c.index-triples-place.result c.loop-place.places c.add_triple.new.places c.loop-place-test.true c.loop-place.invariant
    (λ q. c.in_ok-add_triple.ensures q ∙ ap (λ (t : Bor Triple). or_place (place_in c.loop-place.places q) (is_entry q t.now) c.loop-place.place) c.index-triples-place.is)
