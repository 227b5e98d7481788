use Rattle.std.proofs.Common.{◌≡◌, flat_map, take}
use Rattle.arc_lines.specs.LineArcs.{section_places}
use Rattle.arc_lines.proofs.lines.arcs_in.Given as goal

-- the arcs of the sections so far
abbrev pub invariant-loop-text : goal.invariant-loop-text
invariant-loop-text g l = l.found.items ≡ flat_map (section_places (g.G.NamedGraph.graph l.graph)) (take l.text-index l.sections)
