use Rattle.json_forms.specs.Places.{place_of}
use Rattle.tile_grid.proofs.places.place_of.Goals as goal

pub returns : goal.returns
unfolding place_of
returns c = rw (← c.colon_place.ensures.place, ← c.split_at.ensures.front) c.first_place.ensures
