use Rattle.std.proofs.Common.{◌≡◌, ◌++◌, drop, flat_map}
use Rattle.records.specs.Grid.{origin_of}
use Rattle.fabric.specs.MuxBits.{bits_named}
use Rattle.slice_model.proofs.setting_bits.add_patterns.Given as goal

-- the bits so far and those of the patterns that are left are all
abbrev pub invariant-loop-pattern : goal.invariant-loop-pattern
invariant-loop-pattern l = l.bits.items ++ flat_map (bits_named (origin_of l.tile)) (drop l.pattern-index l.patterns) ≡ l.fn.bits.items ++ flat_map (bits_named (origin_of l.tile)) l.patterns
