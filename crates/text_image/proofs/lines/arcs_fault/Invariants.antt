use Rattle.std.proofs.Common.{◌≡◌, None, option_map, drop}
use Rattle.design_checks.specs.LineChecks.{arc_faults}
use Rattle.text_image.specs.Faults.{fault_view, first_behind}
use Rattle.text_image.proofs.lines.arcs_fault.Given as goal

-- the first so far, and what is left
abbrev pub invariant-loop-arc : goal.invariant-loop-arc
invariant-loop-arc g l = first_behind (arc_faults (g.G.NamedGraph.graph l.graph) l.t l.tile) (option_map fault_view l.found) (drop l.arc-index l.arcs) ≡ first_behind (arc_faults (g.G.NamedGraph.graph l.graph) l.t l.tile) None l.arcs
