use Rattle.std.proofs.Common.{◌≡◌, drop, length, map}
use Rattle.std.specs.Cmp.Lexicographic.{pointwise}
use Rattle.cells.specs.Shapes.{form_of, same_form}
use Rattle.named_graph.specs.Standing.{settings_at}
use Rattle.setting_values.proofs.forms.same_forms.Given as goal

-- those that are left are the same where all are
abbrev pub invariant-loop-i : goal.invariant-loop-i
invariant-loop-i g l = record {
  as_many : length l.a ≡ length l.b;
  left : pointwise same_form (map (form_of (settings_at (g.G.NamedGraph.graph l.graph) l.a_tile)) (drop l.i l.a)) (map (form_of (settings_at (g.G.NamedGraph.graph l.graph) l.b_tile)) (drop l.i l.b))
      ≡ pointwise same_form (map (form_of (settings_at (g.G.NamedGraph.graph l.graph) l.a_tile)) l.a) (map (form_of (settings_at (g.G.NamedGraph.graph l.graph) l.b_tile)) l.b);
}
