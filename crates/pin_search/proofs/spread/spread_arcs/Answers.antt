use Rattle.std.proofs.Common.{◌≡◌, ℕ, true, List, sym, ap, subst, ◌∙◌, arith, get_or}
use Rattle.words.specs.Members.{In}
use Rattle.net_links.proofs.Listed.{met, one_more_holds, each_member}
use Rattle.pin_search.specs.Labels.{weight_in, label_by, IsTaken}
use Rattle.pin_search.specs.Searches.{AtMost}
use Rattle.pin_search.specs.Fronts.{Turn}
use Rattle.pin_search.proofs.Touched.{no_more}
use Rattle.pin_search.proofs.Falling.{at_most_falls, moves_on, stays_put}
use Rattle.pin_search.proofs.Taking.{enters_of}
use Rattle.pin_search.proofs.spread.spread_arcs.Goals as goal

pub returns-then-not-enterable-clause-arcs : goal.returns-then-not-enterable-clause-arcs
returns-then-not-enterable-clause-arcs g c = λ a i t.
    let net = g.R.Links.network c.args.rules.now in
    let rs = g.R.PathRules.rules c.args.rules.now in
    let e = ((c.requires.net.ins c.args.w a c.requires.turn.wire).0 i).1 in
    let enters : rs.enterable c.args.w ≡ true = ap rs.enterable (sym e) ∙ enters_of net rs a t in
    let h = c.enterable.ensures in let f = c.if-not-enterable.true in absurd (let no : ⊥ = cc in no)

pub loop-a-init : goal.loop-a-init
loop-a-init g c = record {
  turn = c.requires.turn;
  moves = stays_put c.args.front.now.labels.items c.args.front.now.queue c.args.front.now.touched.items c.args.front.now.best;
  arcs = λ k h. absurd (omega arith);
}

pub loop-a-preserved : goal.loop-a-preserved
loop-a-preserved g c =
    let net = g.R.Links.network c.args.rules.now in
    let rs = g.R.PathRules.rules c.args.rules.now in
    let front = c.loop-a.front in
    let new = c.spread_arc.new.front in
    let t = c.loop-a.invariant.turn in
    let label = get_or c.args.front.now.labels.items c.args.w 0 in
    let m = c.in_ok-spread_arc.ensures.moves in
    record {
      turn = subst (λ (k : ℕ). Turn net rs c.args.pin c.args.w k new) t.label_is c.in_ok-spread_arc.ensures.turn;
      moves = moves_on c.args.front.now.labels.items c.args.front.now.queue c.args.front.now.touched.items c.args.front.now.best front.labels.items front.queue front.touched.items front.best new.labels.items new.queue new.touched.items new.best c.loop-a.invariant.moves m;
      arcs = one_more_holds (λ a. IsTaken net rs a → AtMost rs new.labels.items new.best (net.wiring.source a) (label_by net rs label a)) c.ins-ins.result.now c.loop-a.a-index c.a-item.result c.loop-a-test.true c.a-item.is
          (subst (λ (k : ℕ). IsTaken net rs c.a-item.result → AtMost rs new.labels.items new.best (net.wiring.source c.a-item.result) (label_by net rs k c.a-item.result)) t.label_is c.in_ok-spread_arc.ensures.arc)
          (λ k kl u. at_most_falls rs front.labels.items new.labels.items front.best new.best (net.wiring.source (get_or c.ins-ins.result.now k 0)) (label_by net rs label (get_or c.ins-ins.result.now k 0)) m.labels_fall m.best_falls (c.loop-a.invariant.arcs k kl u));
    }

pub spread_arc-requires : goal.spread_arc-requires
spread_arc-requires g c =
    let net = g.R.Links.network c.args.rules.now in
    let rs = g.R.PathRules.rules c.args.rules.now in
    let front = c.loop-a.front in
    let t = c.loop-a.invariant.turn in
    let h : In (net.ins c.args.w) c.a-item.result = subst (λ (xs : List ℕ). In xs c.a-item.result) c.ins-ins.ensures (met c.ins-ins.result.now c.loop-a.a-index c.a-item.result c.loop-a-test.true c.a-item.is) in
    let i = (c.requires.net.ins c.args.w c.a-item.result t.wire).0 h in
    let few = no_more net.wiring.wires front.touched.items t.search.once t.search.wires in
    let label = get_or c.args.front.now.labels.items c.args.w 0 in
    let light : c.weight.result ≡ weight_in label = c.weight.ensures ∙ ap weight_in (c.label_at.ensures ∙ ap (λ (xs : List ℕ). get_or xs c.args.w 0) c.deref.ensures.value) in
    let same : weight_in (get_or front.labels.items c.args.w 0) ≡ weight_in label = ap weight_in t.label_is in
    let b = c.requires.turn.search.bounded c.args.w t.wire (let k = c.requires.turn.near in omega arith) in
    let more = c.loop-a.invariant.moves.more_touched in
    let own = c.weight-2.ensures in
    let from = c.from.ensures in
    record {
      net = c.requires.net;
      arc = i.0;
      sink = i.1;
      entered = let e = c.enterable.ensures in let f = c.if-not-enterable.false in cc;
      weight = omega arith;
      small = omega arith;
      few = let w = c.requires.few in omega arith;
      turn = subst (λ (k : ℕ). Turn net rs c.args.pin c.args.w k front) (sym t.label_is) t;
    }

pub returns-clause-arcs : goal.returns-clause-arcs
returns-clause-arcs g c =
    let net = g.R.Links.network c.args.rules.now in
    let rs = g.R.PathRules.rules c.args.rules.now in
    λ a h. each_member (λ b. IsTaken net rs b → AtMost rs c.loop-a.front.labels.items c.loop-a.front.best (net.wiring.source b) (label_by net rs (get_or c.args.front.now.labels.items c.args.w 0) b)) c.ins-ins.result.now (λ k kl. c.loop-a.invariant.arcs k (let t = c.loop-a-test.false in omega arith)) a (subst (λ (xs : List ℕ). In xs a) (sym c.ins-ins.ensures) h)

pub overflow_add-weight : goal.overflow_add-weight
overflow_add-weight g c =
    let net = g.R.Links.network c.args.rules.now in
    let t = c.requires.turn in
    let label = get_or c.args.front.now.labels.items c.args.w 0 in
    let light : c.weight.result ≡ weight_in label = c.weight.ensures ∙ ap weight_in (c.label_at.ensures ∙ ap (λ (xs : List ℕ). get_or xs c.args.w 0) c.deref.ensures.value) in
    let b = t.search.bounded c.args.w t.wire (let k = t.near in omega arith) in
    let few = no_more net.wiring.wires c.args.front.now.touched.items t.search.once t.search.wires in
    let w = c.requires.few in
    let from = c.from.ensures in omega arith
