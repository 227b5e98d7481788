use Rattle.std.proofs.Common.{◌≡◌, None, option_map, drop}
use Rattle.design_checks.specs.LineChecks.{enum_faults}
use Rattle.named_graph.specs.Standing.{settings_at}
use Rattle.text_image.specs.Faults.{fault_view, first_behind}
use Rattle.text_image.proofs.lines.enums_fault.Given as goal

-- the first so far, and what is left
abbrev pub invariant-loop-line : goal.invariant-loop-line
invariant-loop-line g l = first_behind (enum_faults (settings_at (g.G.NamedGraph.graph l.graph) l.t)) (option_map fault_view l.found) (drop l.line-index l.enums) ≡ first_behind (enum_faults (settings_at (g.G.NamedGraph.graph l.graph) l.t)) None l.enums
