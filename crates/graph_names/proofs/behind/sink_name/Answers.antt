use Rattle.std.proofs.Common.{◌≡◌, None, Some, ap, rules, ◌∙◌}
use Rattle.records.specs.Database.{Mux}
use Rattle.record_laws.proofs.RecordsFound.{sink_is}
use Rattle.graph_names.proofs.behind.sink_name.Goals as goal

pub returns-in_err-mux : goal.returns-in_err-mux
returns-in_err-mux g c = λ graph standing.
    let is : c.from_residual.result ≡ None = search rules in
    rw is (sink_is (g.D.TileDatabases.device c.args.device.now) graph c.args.muxes.now standing c.args.m None c.in_err-mux.ensures)

pub returns : goal.returns
returns g c = λ graph standing.
    ap (λ x. Some x) (ap (λ (x : Mux). x.sink) c.mux.view_is)
    ∙ sink_is (g.D.TileDatabases.device c.args.device.now) graph c.args.muxes.now standing c.args.m (Some c.in_ok-mux.mux.now) c.in_ok-mux.ensures
