use Rattle.std.proofs.Common.{◌≡◌, drop}
use Rattle.std.specs.Prelude.{find}
use Rattle.records.specs.Grid.{origin_of}
use Rattle.cram_image.specs.Image.{bits}
use Rattle.setting_values.specs.Tied.{fits_with}
use Rattle.setting_values.proofs.enums.first_tied.Given as goal

-- the first of those that are left is the first of all
abbrev pub invariant-loop-option : goal.invariant-loop-option
invariant-loop-option l = find (fits_with (bits l.image) (origin_of l.tile) l.longest) (drop l.option-index l.options) ≡ find (fits_with (bits l.image) (origin_of l.tile) l.longest) l.options
