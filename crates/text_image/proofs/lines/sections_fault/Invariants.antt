use Rattle.std.proofs.Common.{◌≡◌, None, option_map, drop}
use Rattle.design_checks.specs.LineChecks.{section_faults}
use Rattle.text_image.specs.Faults.{fault_view, first_behind}
use Rattle.text_image.proofs.lines.sections_fault.Given as goal

-- the first so far, and what is left
abbrev pub invariant-loop-text : goal.invariant-loop-text
invariant-loop-text g l = first_behind (section_faults (g.G.NamedGraph.graph l.graph)) (option_map fault_view l.found) (drop l.text-index l.sections) ≡ first_behind (section_faults (g.G.NamedGraph.graph l.graph)) None l.sections
