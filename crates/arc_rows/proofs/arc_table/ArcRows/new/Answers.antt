use Rattle.std.proofs.Common.{arith}
use Rattle.graph_lists.specs.ArcLists.{numbers_cmp}
use Rattle.graph_lists.proofs.Fewer.{not_more}
use Rattle.arc_rows.proofs.Tied.{numbers_tied}
use Rattle.arc_rows.proofs.arc_table.ArcRows.new.Goals as goal

pub with_rows-requires-clause-few : goal.with_rows-requires-clause-few
with_rows-requires-clause-few c =
    let fewer = not_more numbers_cmp numbers_tied c.args.arcs.items c.in_ok-arcs.arcs.items c.in_ok-arcs.ensures in omega arith
