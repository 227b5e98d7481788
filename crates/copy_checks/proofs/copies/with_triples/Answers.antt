use Rattle.std.proofs.Common.{◌≡◌, length, None, Some, refl, sym, subst, arith}
use Rattle.std.specs.Prelude.{slice_get}
use Rattle.std.proofs.lemmas.Option.{slice_get_read}
use Rattle.words.specs.Members.{In}
use Rattle.fabric_laws.proofs.Numbered.{get_in}
use Rattle.copy_checks.proofs.Order.{triple_more}
use Rattle.copy_checks.proofs.copies.with_triples.Goals as goal

-- one triple more
pub loop-triple-preserved : goal.loop-triple-preserved
loop-triple-preserved c = λ circuit is are.
    let ts = c.args.triples.now in
    let n = c.loop-triple.triple-index in
    let t = c.triple-item.result in
    let at : slice_get ts n ≡ Some t = slice_get_read ts (length ts) n t refl (omega arith) c.triple-item.is in
    triple_more circuit ts t n None c.loop-triple.found c.in_ok-found.found at (c.loop-triple.invariant circuit is are) (c.in_ok-found.ensures circuit is (subst (λ xs. In xs t) (sym are) (get_in ts n t at)))
