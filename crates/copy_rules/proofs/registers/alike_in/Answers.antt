use Rattle.std.proofs.Common.{ap}
use Rattle.cell_parts.specs.CellViews.{input_of}
use Rattle.circuit.specs.Cells.{RegisterCell}
use Rattle.copy_rules.specs.Fields.{field_of}
use Rattle.copy_rules.proofs.Differing.{alike_enable, alike_reset, alike_clock}
use Rattle.copy_rules.proofs.registers.alike_in.Goals as goal

pub returns-in-Enable : goal.returns-in-Enable
returns-in-Enable c = λ circuit shows.
    alike_enable circuit c.args.pair.now.first c.args.pair.now.second c.args.q.now c.args.r.now c.takes_alike-in-Enable.result (input_of c.q.inside.enable) (input_of c.r.inside.enable) (field_of c.args.field)
    (ap (λ (z : RegisterCell). z.enable) c.q.view_is) (ap (λ (z : RegisterCell). z.enable) c.r.view_is) (ap field_of c.in-Enable.is) (c.takes_alike-in-Enable.ensures circuit shows)

pub returns-in-Reset : goal.returns-in-Reset
returns-in-Reset c = λ circuit shows.
    alike_reset circuit c.args.pair.now.first c.args.pair.now.second c.args.q.now c.args.r.now c.takes_alike-in-Reset.result (input_of c.q.inside.reset) (input_of c.r.inside.reset) (field_of c.args.field)
    (ap (λ (z : RegisterCell). z.reset) c.q.view_is) (ap (λ (z : RegisterCell). z.reset) c.r.view_is) (ap field_of c.in-Reset.is) (c.takes_alike-in-Reset.ensures circuit shows)

pub returns-in-Clock : goal.returns-in-Clock
returns-in-Clock c = λ circuit shows.
    alike_clock circuit c.args.pair.now.first c.args.pair.now.second c.args.q.now c.args.r.now c.takes_alike-in-Clock.result (input_of c.q.inside.clock) (input_of c.r.inside.clock) (field_of c.args.field)
    (ap (λ (z : RegisterCell). z.clock) c.q.view_is) (ap (λ (z : RegisterCell). z.clock) c.r.view_is) (ap field_of c.in-Clock.is) (c.takes_alike-in-Clock.ensures circuit shows)
