use Rattle.std.proofs.Common.{◌≡◌, ◌++◌}
use Rattle.std.specs.BTreeMap.{values}
use Rattle.config_text.proofs.order.sections_of.Given as goal

-- the sections so far and those that are left are all
abbrev pub invariant-loop-section : goal.invariant-loop-section
invariant-loop-section l = l.sections ++ l.section-iterator ≡ values l.fn.by_tile
