use Rattle.std.proofs.Common.{◌≡◌, None, Some, ap, rules, ◌∙◌}
use Rattle.records.specs.Database.{Arc}
use Rattle.record_laws.proofs.RecordsFound.{pattern_is}
use Rattle.graph_names.proofs.behind.pattern_of.Goals as goal

pub returns-in_err-arc : goal.returns-in_err-arc
returns-in_err-arc g c = λ graph standing.
    let is : c.from_residual.result ≡ None = search rules in
    rw is (pattern_is (g.D.TileDatabases.device c.args.device.now) graph c.args.muxes.now c.args.arcs.now standing c.args.a None c.in_err-arc.ensures)

pub returns : goal.returns
returns g c = λ graph standing.
    ap (λ x. Some x) (c.as_slice.ensures ∙ ap (λ (x : Arc). x.bits) c.arc.view_is)
    ∙ pattern_is (g.D.TileDatabases.device c.args.device.now) graph c.args.muxes.now c.args.arcs.now standing c.args.a (Some c.in_ok-arc.arc.now) c.in_ok-arc.ensures
