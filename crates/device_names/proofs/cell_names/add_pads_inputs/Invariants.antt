use Rattle.std.proofs.Common.{◌≡◌, ◌++◌, take, filter, bytes_eq}
use Rattle.std.specs.Prelude.{flat_map, option_to_list}
use Rattle.device_names.proofs.cell_names.add_pads_inputs.Given as goal

-- the names so far
abbrev pub invariant-loop-pad : goal.invariant-loop-pad
invariant-loop-pad l = l.names ≡ l.initial.names ++ flat_map (λ k. option_to_list k.out_wire) (filter (λ k. bytes_eq k.tile l.kind) (take l.pad-index l.pads))
