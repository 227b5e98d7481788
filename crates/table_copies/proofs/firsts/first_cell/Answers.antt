use Rattle.std.proofs.Common.{sym, ap, option_and_then, ◌∙◌}
use Rattle.std.specs.Prelude.{slice_get}
use Rattle.records.specs.Side.{Triple}
use Rattle.circuit.specs.Triples.{all_triples}
use Rattle.table_copies.proofs.FirstCells.{own_first, listed_first}
use Rattle.table_copies.proofs.firsts.first_cell.Goals as goal

pub returns-in-None : goal.returns-in-None
returns-in-None c = own_first c.args.side.now c.args.own.now c.args.number (ap (option_and_then (slice_get (all_triples c.args.side.now))) c.in-None.is)

pub returns-in-None-triple_at : goal.returns-in-None-triple_at
returns-in-None-triple_at c =
    own_first c.args.side.now c.args.own.now c.args.number (ap (option_and_then (slice_get (all_triples c.args.side.now))) c.in-Some.is ∙ sym c.in-None-triple_at.ensures)

pub returns-in-Some-triple_at : goal.returns-in-Some-triple_at
returns-in-Some-triple_at c = λ is.
    ap (λ (t : Triple). t.first) c.triple.view_is
    ∙ listed_first c.args.side.now c.args.own.now c.args.number c.in-Some-triple_at.triple.now (ap (option_and_then (slice_get (all_triples c.args.side.now))) c.in-Some.is ∙ sym c.in-Some-triple_at.ensures) is
