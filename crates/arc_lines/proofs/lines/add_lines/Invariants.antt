use Rattle.std.proofs.Common.{◌≡◌, ◌++◌, filter_map, take}
use Rattle.arc_lines.specs.LineArcs.{line_place}
use Rattle.arc_lines.proofs.lines.add_lines.Given as goal

-- the arcs of the lines so far
abbrev pub invariant-loop-line : goal.invariant-loop-line
invariant-loop-line g l = l.found.items ≡ l.fn.found.items ++ filter_map (line_place (g.G.NamedGraph.graph l.graph) l.t) (take l.line-index l.lines)
