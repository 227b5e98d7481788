use Rattle.search_bench.specs.Grids.{AreIds}
use Rattle.search_bench.proofs.arcs.all_outs.Given as goal

abbrev pub invariant-loop-place : goal.invariant-loop-place
invariant-loop-place l = AreIds l.place l.outs.items
