use Rattle.std.proofs.Common.{◌≡◌, ◌++◌, drop, flat_map}
use Rattle.records.specs.Database.{EnumOption}
use Rattle.records.specs.Grid.{origin_of}
use Rattle.fabric.specs.MuxBits.{bits_named}
use Rattle.slice_model.proofs.setting_bits.add_options.Given as goal

-- the bits so far and those of the options that are left are all
abbrev pub invariant-loop-option : goal.invariant-loop-option
invariant-loop-option l = l.bits.items ++ flat_map (λ (o : EnumOption). bits_named (origin_of l.tile) o.bits) (drop l.option-index l.options) ≡ l.fn.bits.items ++ flat_map (λ (o : EnumOption). bits_named (origin_of l.tile) o.bits) l.options
