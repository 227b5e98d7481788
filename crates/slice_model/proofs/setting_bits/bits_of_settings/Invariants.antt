use Rattle.std.proofs.Common.{◌≡◌, ◌++◌, drop, flat_map}
use Rattle.records.specs.Grid.{origin_of}
use Rattle.cells.specs.Resolved.{bits_of_setting}
use Rattle.named_graph.specs.Standing.{settings_at}
use Rattle.slice_model.proofs.setting_bits.bits_of_settings.Given as goal

-- the bits so far and those of the names that are left are all
abbrev pub invariant-loop-name : goal.invariant-loop-name
invariant-loop-name g l = l.bits.items ++ flat_map (bits_of_setting (origin_of l.tile) (settings_at (g.G.NamedGraph.graph l.graph) l.t)) (drop l.name-index l.names) ≡ flat_map (bits_of_setting (origin_of l.tile) (settings_at (g.G.NamedGraph.graph l.graph) l.t)) l.names
