use Rattle.std.proofs.Common.{◌≡◌, ◌*◌}
use Rattle.search_bench.proofs.runs.wide_net.Given as goal

abbrev pub invariant-loop-i : goal.invariant-loop-i
invariant-loop-i l = record {
  space : l.space ≡ l.side * l.side;
  wires : l.net.arcs.wires ≡ l.side * l.side;
}
