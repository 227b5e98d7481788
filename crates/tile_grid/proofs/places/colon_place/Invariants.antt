use Rattle.std.proofs.Common.{◌≡◌, ◌+◌, drop}
use Rattle.std.specs.List.{position_or_len}
use Rattle.json_forms.specs.Places.{is_colon}
use Rattle.tile_grid.proofs.places.colon_place.Given as goal

abbrev pub invariant-loop-place : goal.invariant-loop-place
invariant-loop-place l = l.place + position_or_len is_colon (drop l.place l.name) ≡ position_or_len is_colon l.name
