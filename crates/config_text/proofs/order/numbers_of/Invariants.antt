use Rattle.std.proofs.Common.{◌≡◌, length}
use Rattle.words.specs.Ordered.{in_order_once}
use Rattle.config_grammar.specs.ConfigText.{arc_key}
use Rattle.config_text.specs.Entries.{arcs_at, AreSinks}
use Rattle.config_text.proofs.Arcs.{put_all}
use Rattle.config_text.proofs.order.numbers_of.Given as goal

-- the arcs that are left, put among those so far, are all arcs in order
abbrev pub invariant-loop-arc : goal.invariant-loop-arc
invariant-loop-arc l = record {
  rest : put_all l.left (arcs_at l.numbers.entries) ≡ in_order_once arc_key l.fn.arcs;
  sinks : AreSinks l.numbers.entries;
}

abbrev pub decreases-loop-arc : goal.decreases-loop-arc
decreases-loop-arc l = length l.left
