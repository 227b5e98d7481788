use Rattle.std.proofs.Common.{◌≡◌}
use Rattle.search_bench.proofs.runs.join_path.Given as goal

abbrev pub invariant-loop-a : goal.invariant-loop-a
invariant-loop-a l = l.net.arcs ≡ l.fn.net.arcs
