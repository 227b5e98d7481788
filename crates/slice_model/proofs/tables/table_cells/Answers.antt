use Rattle.slice_model.proofs.Walking.{item_in}
use Rattle.slice_model.proofs.tables.table_cells.Goals as goal

pub table_cell-requires-clause-small : goal.table_cell-requires-clause-small
table_cell-requires-clause-small g c =
    c.requires.small.each c.table-item.result (item_in c.args.tables.now c.loop-table.table-index c.table-item.result c.loop-table-test.true c.table-item.is)
