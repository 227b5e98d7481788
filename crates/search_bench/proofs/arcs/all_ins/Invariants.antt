use Rattle.search_bench.specs.Grids.{AreInto}
use Rattle.search_bench.proofs.arcs.all_ins.Given as goal

abbrev pub invariant-loop-place : goal.invariant-loop-place
invariant-loop-place l = AreInto l.wires l.distances l.place l.ins.items
