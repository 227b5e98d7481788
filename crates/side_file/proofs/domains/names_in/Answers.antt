use Rattle.std.proofs.Common.{◌≡◌, ap, sym, ◌∙◌}
use Rattle.records.specs.Side.{Placed}
use Rattle.side_form.specs.Side.{same_domain}
use Rattle.rr_ids.specs.Domains.{domain_of}
use Rattle.side_file.specs.Digest.{digest_of}
use Rattle.side_file.proofs.SameDomain.{same_domains}
use Rattle.side_file.proofs.Sets.{one_more_in_domain, one_more_elsewhere}
use Rattle.side_file.proofs.Walks.{so_far_plain}
use Rattle.side_file.proofs.domains.names_in.Goals as goal
use Rattle.side_file.proofs.domains.names_in.Goals.{then-eq+in_ok-insert, else-eq}

pub loop-cell-preserved : goal.loop-cell-preserved
loop-cell-preserved c =
    let cell = c.cell-item.result in
    let name : c.cell.inside.name ≡ cell.name = ap (λ (p : Placed). p.name) c.cell.view_is in
    let copy : domain_of c.cell.inside.domain ≡ cell.domain = ap (λ (p : Placed). p.domain) c.cell.view_is in
    let same : c.eq.result ≡ same_domain cell.domain (domain_of c.args.domain) = c.eq.ensures ∙ same_domains c.cell.inside.domain c.args.domain ∙ ap (λ d. same_domain d (domain_of c.args.domain)) copy in
    rw (so_far_plain c.args.cells.now c.loop-cell.cell-index cell c.loop-cell-test.true c.cell-item.is)
    (elim c.if-eq.branch [
      | then-eq+in_ok-insert w ↦ rw w.names-is (one_more_in_domain (domain_of c.args.domain) _ cell (w.digest.result, c.cell.inside.name) c.loop-cell.names w.insert.new.self (w.digest.ensures ∙ ap digest_of name) name (sym same ∙ w.if-eq.true) c.loop-cell.invariant w.in_ok-insert.ensures.updates.0)
      | else-eq w ↦ rw w.names-is (one_more_elsewhere (domain_of c.args.domain) _ cell c.loop-cell.names (sym same ∙ w.if-eq.false) c.loop-cell.invariant)
    ])
