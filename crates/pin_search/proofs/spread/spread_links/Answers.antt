use Rattle.std.proofs.Common.{◌≡◌, ℕ, ◌<◌, List, sym, ap, subst, ◌∙◌, arith, get_or}
use Rattle.words.specs.Members.{In}
use Rattle.net_links.proofs.Listed.{met, one_more_holds, each_member}
use Rattle.pin_search.specs.Labels.{far, Stands}
use Rattle.pin_search.specs.Searches.{AtMost}
use Rattle.pin_search.specs.Fronts.{Turn}
use Rattle.pin_search.proofs.Falling.{at_most_falls, moves_on, stays_put, weight_up}
use Rattle.pin_search.proofs.Taking.{stands_link}
use Rattle.pin_search.proofs.spread.spread_links.Goals as goal

pub loop-x-init : goal.loop-x-init
loop-x-init g c = record {
  turn = c.requires.turn;
  moves = stays_put c.args.front.now.labels.items c.args.front.now.queue c.args.front.now.touched.items c.args.front.now.best;
  links = λ k h. absurd (omega arith);
}

pub lower-requires : goal.lower-requires
lower-requires g c =
    let net = g.R.Links.network c.args.rules.now in
    let rs = g.R.PathRules.rules c.args.rules.now in
    let front = c.loop-x.front in
    let t = c.loop-x.invariant.turn in
    let h : In (rs.drivers c.args.w) c.x-item.result = subst (λ (xs : List ℕ). In xs c.x-item.result) c.drivers-drivers.ensures (met c.drivers-drivers.result.now c.loop-x.x-index c.x-item.result c.loop-x-test.true c.x-item.is) in
    let d = (c.requires.net.drivers c.args.w c.x-item.result t.wire).0 h in
    let near : get_or front.labels.items c.args.w 0 < far = (let e = t.label_is in let l = t.near in omega arith) in
    let el : c.label_at-label.result ≡ get_or front.labels.items c.args.w 0 = c.label_at-label.ensures ∙ (ap (λ (xs : List ℕ). get_or xs c.args.w 0) c.deref.ensures.value ∙ sym t.label_is) in
    record {
      turn = subst (λ (k : ℕ). Turn net rs c.args.pin c.args.w k front) (sym t.label_is) t;
      wire = d.0;
      outside = λ i. t.search.outside c.args.w t.wire near (c.requires.net.tree.closed c.x-item.result c.args.w i d.1);
      above = omega arith;
      near = omega arith;
      small = let b = t.search.bounded c.args.w t.wire near in let w = weight_up c.label_at-label.result (get_or front.labels.items c.args.w 0) (omega arith) in omega arith;
      stands = subst (Stands net rs c.args.pin front.labels.items c.x-item.result) (sym el) (stands_link net rs c.args.pin front.labels.items c.x-item.result c.args.w (get_or front.labels.items c.args.w 0) d.1 (t.search.stands c.args.w t.wire near));
    }

pub loop-x-preserved : goal.loop-x-preserved
loop-x-preserved g c =
    let net = g.R.Links.network c.args.rules.now in
    let rs = g.R.PathRules.rules c.args.rules.now in
    let front = c.loop-x.front in
    let new = c.lower.new.front in
    let t = c.loop-x.invariant.turn in
    let label = get_or c.args.front.now.labels.items c.args.w 0 in
    let el : c.label_at-label.result ≡ label = c.label_at-label.ensures ∙ ap (λ (xs : List ℕ). get_or xs c.args.w 0) c.deref.ensures.value in
    let m = c.in_ok-lower.ensures.moves in
    record {
      turn = subst (λ (k : ℕ). Turn net rs c.args.pin c.args.w k new) t.label_is c.in_ok-lower.ensures.turn;
      moves = moves_on c.args.front.now.labels.items c.args.front.now.queue c.args.front.now.touched.items c.args.front.now.best front.labels.items front.queue front.touched.items front.best new.labels.items new.queue new.touched.items new.best c.loop-x.invariant.moves m;
      links = one_more_holds (λ y. AtMost rs new.labels.items new.best y label) c.drivers-drivers.result.now c.loop-x.x-index c.x-item.result c.loop-x-test.true c.x-item.is
          (subst (AtMost rs new.labels.items new.best c.x-item.result) el c.in_ok-lower.ensures.done)
          (λ k kl. at_most_falls rs front.labels.items new.labels.items front.best new.best (get_or c.drivers-drivers.result.now k 0) label m.labels_fall m.best_falls (c.loop-x.invariant.links k kl));
    }

pub returns-clause-links : goal.returns-clause-links
returns-clause-links g c = λ x h. each_member (λ y. AtMost (g.R.PathRules.rules c.args.rules.now) c.loop-x.front.labels.items c.loop-x.front.best y (get_or c.args.front.now.labels.items c.args.w 0)) c.drivers-drivers.result.now (λ k kl. c.loop-x.invariant.links k (let t = c.loop-x-test.false in omega arith)) x (subst (λ (xs : List ℕ). In xs x) (sym c.drivers-drivers.ensures) h)
