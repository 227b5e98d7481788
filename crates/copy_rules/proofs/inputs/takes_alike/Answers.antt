use Rattle.cell_parts.specs.CellViews.{input_of}
use Rattle.copy_rules.proofs.Taken.{told_apart, told_constant, told_wires}
use Rattle.copy_rules.proofs.inputs.takes_alike.Goals as goal

pub returns-in-Apart : goal.returns-in-Apart
returns-in-Apart c = λ circuit shows. told_apart circuit c.args.pair.now.first c.args.pair.now.second c.args.number (input_of c.args.a) (input_of c.args.b) c.in-Apart.ensures

pub returns-in-Constant : goal.returns-in-Constant
returns-in-Constant c = λ circuit shows. told_constant circuit c.args.pair.now.first c.args.pair.now.second c.args.number (input_of c.args.a) (input_of c.args.b) c.in-Constant.ensures

pub returns-in-Wires : goal.returns-in-Wires
returns-in-Wires c = λ circuit shows.
    told_wires circuit c.args.pair.now.first c.args.pair.now.second c.args.number c.fed_alike_at.result (input_of c.args.a) (input_of c.args.b) c.in-Wires.ensures (c.fed_alike_at.ensures circuit shows)
