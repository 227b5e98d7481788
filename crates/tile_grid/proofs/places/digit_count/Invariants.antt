use Rattle.std.proofs.Common.{◌≡◌, ◌+◌, drop}
use Rattle.std.specs.List.{prefix_len}
use Rattle.texts.specs.Numbers.{is_digit}
use Rattle.tile_grid.proofs.places.digit_count.Given as goal

abbrev pub invariant-loop-place : goal.invariant-loop-place
invariant-loop-place l = l.place + prefix_len is_digit (drop l.place l.text) ≡ prefix_len is_digit l.text
