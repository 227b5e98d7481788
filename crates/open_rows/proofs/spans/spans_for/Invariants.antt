use Rattle.std.proofs.Common.{◌≡◌, ◌+◌, ◌++◌, drop}
use Rattle.std.specs.Prelude.{sum}
use Rattle.open_rows.specs.Spans.{spans_from}
use Rattle.open_rows.proofs.spans.spans_for.Given as goal

abbrev pub invariant-loop-count : goal.invariant-loop-count
invariant-loop-count l = record {
  built : l.spans.items ++ spans_from l.start (drop l.count-index l.room) ≡ spans_from 0 l.room;
  total : l.start + sum (drop l.count-index l.room) ≡ sum l.room;
}
