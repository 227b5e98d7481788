use Rattle.std.proofs.Common.{◌≡◌, ◌≤◌, drop}
use Rattle.texts.specs.Numbers.{value_behind, value_of}
use Rattle.tile_grid.specs.Capped.{capped}
use Rattle.tile_grid.proofs.places.value.Given as goal

abbrev pub invariant-loop-digit : goal.invariant-loop-digit
invariant-loop-digit l = record {
  small : l.value ≤ 256;
  same : capped (value_behind l.value (drop l.digit-index l.digits)) ≡ capped (value_of l.digits);
}
