use Rattle.std.proofs.Common.{ap, sym, ◌∙◌, ◌^◌}
use Rattle.cell_parts.specs.PartViews.{kind_of}
use Rattle.circuit_parts.proofs.Gathered.{table_pins_few}
use Rattle.circuit_parts.proofs.part_pins.add_source.Goals as goal

-- the pins of the table are among those of the part
pub add_table_pins-requires : goal.add_table_pins-requires
add_table_pins-requires c = table_pins_few c.args.source.now c.in-Table.table.now (2 ^ 32) (ap (λ s. s.kind) (sym c.source.view_is) ∙ ap kind_of c.in-Table.is) c.requires
