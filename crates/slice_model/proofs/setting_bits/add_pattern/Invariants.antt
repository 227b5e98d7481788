use Rattle.std.proofs.Common.{◌≡◌, ◌++◌, drop}
use Rattle.records.specs.Grid.{origin_of}
use Rattle.fabric.specs.MuxBits.{bits_named}
use Rattle.slice_model.proofs.setting_bits.add_pattern.Given as goal

-- the bits so far and those that are left are all
abbrev pub invariant-loop-p : goal.invariant-loop-p
invariant-loop-p l = l.bits.items ++ bits_named (origin_of l.tile) (drop l.p-index l.pattern) ≡ l.fn.bits.items ++ bits_named (origin_of l.tile) l.pattern
