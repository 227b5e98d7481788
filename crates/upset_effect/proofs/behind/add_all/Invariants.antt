use Rattle.std.proofs.Common.{◌≡◌, take}
use Rattle.std.specs.Prelude.{nat_eq}
use Rattle.indexmap.specs.IndexSet.{insert_all}
use Rattle.upset_effect.proofs.behind.add_all.Given as goal

-- the wires so far are in
abbrev pub invariant-loop-wire : goal.invariant-loop-wire
invariant-loop-wire l = l.found.keys ≡ insert_all nat_eq l.initial.found.keys (take l.wire-index l.wires)
