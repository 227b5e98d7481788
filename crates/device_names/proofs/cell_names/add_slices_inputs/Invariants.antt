use Rattle.std.proofs.Common.{◌≡◌, ◌++◌, take, filter, bytes_eq}
use Rattle.std.specs.Prelude.{flat_map}
use Rattle.device_names.specs.TileNames.{slice_inputs}
use Rattle.device_names.proofs.cell_names.add_slices_inputs.Given as goal

-- the names so far
abbrev pub invariant-loop-slice : goal.invariant-loop-slice
invariant-loop-slice l = l.names ≡ l.initial.names ++ flat_map slice_inputs (filter (λ k. bytes_eq k.tile l.kind) (take l.slice-index l.slices))
