use Rattle.std.proofs.Common.{length, take}
use Rattle.patterns.specs.Fits.{fits}
use Rattle.records.specs.Database.{EnumOption}
use Rattle.records.specs.Grid.{origin_of}
use Rattle.cram_image.specs.Image.{bits}
use Rattle.chosen_arcs.specs.Places.{IsMost}
use Rattle.setting_values.proofs.enums.longest_fit.Given as goal

-- the most bits so far
abbrev pub invariant-loop-option : goal.invariant-loop-option
invariant-loop-option l = IsMost (λ (o : EnumOption). fits (bits l.image) (origin_of l.tile) o.bits) (λ (o : EnumOption). length o.bits) (take l.option-index l.options) l.longest
