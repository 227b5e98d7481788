use Rattle.std.proofs.Common.{◌≡◌, length}
use Rattle.json_forms.specs.Places.{first_place}
use Rattle.tile_grid.proofs.places.first_place.Given as goal

-- no place stands before the rest
abbrev pub invariant-loop-rest : goal.invariant-loop-rest
invariant-loop-rest l = first_place l.rest ≡ first_place l.text

abbrev pub decreases-loop-rest : goal.decreases-loop-rest
decreases-loop-rest l = length l.rest
