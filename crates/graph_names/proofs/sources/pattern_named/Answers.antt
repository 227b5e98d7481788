use Rattle.std.proofs.Common.{◌≡◌, false, None, Some, ap, rules, sym, ◌∙◌}
use Rattle.records.specs.Database.{Arc}
use Rattle.record_laws.specs.KeptBits.{is_ignored}
use Rattle.record_laws.proofs.ArcsFound.{pattern_found}
use Rattle.graph_names.proofs.sources.pattern_named.Goals as goal

pub returns-in_err-arc : goal.returns-in_err-arc
returns-in_err-arc g c = λ graph standing.
    let device = g.D.TileDatabases.device c.args.device.now in
    let source = c.args.source.now in
    let plain : false ≡ is_ignored device.profile.rules source = sym c.if-is_ignored.false ∙ (c.is_ignored.ensures ∙ ap (λ rules. is_ignored rules source) c.rules.ensures) in
    let is : c.from_residual.result ≡ None = search rules in
    rw is (pattern_found device graph c.args.muxes.now standing c.args.m source plain None c.in_err-arc.ensures)

pub returns : goal.returns
returns g c = λ graph standing.
    let device = g.D.TileDatabases.device c.args.device.now in
    let source = c.args.source.now in
    let plain : false ≡ is_ignored device.profile.rules source = sym c.if-is_ignored.false ∙ (c.is_ignored.ensures ∙ ap (λ rules. is_ignored rules source) c.rules.ensures) in
    ap (λ x. Some x) (c.as_slice.ensures ∙ ap (λ (x : Arc). x.bits) c.arc.view_is)
    ∙ pattern_found device graph c.args.muxes.now standing c.args.m source plain (Some c.in_ok-arc.arc.now) c.in_ok-arc.ensures
