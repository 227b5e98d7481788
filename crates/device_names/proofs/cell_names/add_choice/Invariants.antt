use Rattle.std.proofs.Common.{◌≡◌, ◌++◌, take}
use Rattle.std.specs.Prelude.{flat_map}
use Rattle.fabric.specs.Device.{taken_name}
use Rattle.device_names.proofs.cell_names.add_choice.Given as goal

-- the names so far
abbrev pub invariant-loop-case : goal.invariant-loop-case
invariant-loop-case l = l.names ≡ l.initial.names ++ flat_map (λ k. taken_name k.take) (take l.case-index l.cases)
