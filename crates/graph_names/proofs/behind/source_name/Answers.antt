use Rattle.std.proofs.Common.{◌≡◌, None, Some, ap, rules, ◌∙◌}
use Rattle.records.specs.Database.{Arc}
use Rattle.record_laws.proofs.RecordsFound.{source_is}
use Rattle.graph_names.proofs.behind.source_name.Goals as goal

pub returns-in_err-arc : goal.returns-in_err-arc
returns-in_err-arc g c = λ graph standing.
    let is : c.from_residual.result ≡ None = search rules in
    rw is (source_is (g.D.TileDatabases.device c.args.device.now) graph c.args.muxes.now c.args.arcs.now standing c.args.a None c.in_err-arc.ensures)

pub returns : goal.returns
returns g c = λ graph standing.
    ap (λ x. Some x) (ap (λ (x : Arc). x.source) c.arc.view_is)
    ∙ source_is (g.D.TileDatabases.device c.args.device.now) graph c.args.muxes.now c.args.arcs.now standing c.args.a (Some c.in_ok-arc.arc.now) c.in_ok-arc.ensures
