use Rattle.std.proofs.Common.{◌≡◌, ◌≤◌, ◌+◌, drop, length}
use Rattle.std.specs.Prelude.{filter}
use Rattle.records.specs.Grid.{origin_of}
use Rattle.cram_image.specs.Image.{bits}
use Rattle.setting_values.specs.Tied.{fits_with}
use Rattle.setting_values.proofs.enums.tied_count.Given as goal

-- those so far and those that are left
abbrev pub invariant-loop-option : goal.invariant-loop-option
invariant-loop-option l = record {
  few : l.count ≤ l.option-index;
  all : l.count + length (filter (fits_with (bits l.image) (origin_of l.tile) l.longest) (drop l.option-index l.options)) ≡ length (filter (fits_with (bits l.image) (origin_of l.tile) l.longest) l.options);
}
