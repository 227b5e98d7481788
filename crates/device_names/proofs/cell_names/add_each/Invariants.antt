use Rattle.std.proofs.Common.{◌≡◌, ◌++◌, take}
use Rattle.device_names.proofs.cell_names.add_each.Given as goal

-- the names so far
abbrev pub invariant-loop-name : goal.invariant-loop-name
invariant-loop-name l = l.names ≡ l.initial.names ++ take l.name-index l.more
