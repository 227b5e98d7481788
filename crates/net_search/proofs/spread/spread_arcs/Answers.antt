use Rattle.std.proofs.Common.{ℕ, List, get_or, sym, subst, arith}
use Rattle.words.specs.Members.{In}
use Rattle.net_links.specs.Nets.{rules_of}
use Rattle.net_links.proofs.Listed.{met, listed_arc, one_more_holds, each_member}
use Rattle.route_cut.specs.Checked.{StaysIn}
use Rattle.net_search.proofs.Growing.{grows_in, grows_on, grows_self}
use Rattle.net_search.proofs.Gathered.{stays_grows}
use Rattle.net_search.proofs.spread.spread_arcs.Goals as goal

pub loop-a-init : goal.loop-a-init
loop-a-init g c = record {
  gathers = c.requires.gathers;
  inside = grows_self c.args.reach.now.inside.items;
  edge = grows_self c.args.reach.now.edge.items;
  stay = λ k h. absurd (omega arith);
}

pub spread_arc-requires : goal.spread_arc-requires
spread_arc-requires g c =
    let net = g.R.Links.network c.args.rules.now in
    let h : In (net.wiring.outs c.args.w) c.a-item.result = subst (λ (xs : List ℕ). In xs c.a-item.result) c.outs-outs.ensures (met c.outs-outs.result.now c.loop-a.a-index c.a-item.result c.loop-a-test.true c.a-item.is) in
    let below = c.requires.gathers.wires c.args.w c.requires.from in
    record {
      net = c.requires.net;
      arc = listed_arc net.wiring c.args.w c.a-item.result c.requires.net.wiring below h;
      from = subst (In c.loop-a.reach.inside.items) (sym (c.requires.net.wiring.own c.args.w c.a-item.result below h)) (grows_in c.args.reach.now.inside.items c.loop-a.reach.inside.items c.args.w c.loop-a.invariant.inside c.requires.from);
      gathers = c.loop-a.invariant.gathers;
    }

pub loop-a-preserved : goal.loop-a-preserved
loop-a-preserved g c =
    let net = g.R.Links.network c.args.rules.now in
    let rs = g.R.PathRules.rules c.args.rules.now in
    let reach = c.loop-a.reach in
    let new = c.spread_arc.new.reach in
    let e = c.in_ok-spread_arc.ensures in
    record {
      gathers = e.gathers;
      inside = grows_on c.args.reach.now.inside.items reach.inside.items new.inside.items c.loop-a.invariant.inside e.inside;
      edge = grows_on c.args.reach.now.edge.items reach.edge.items new.edge.items c.loop-a.invariant.edge e.edge;
      stay = one_more_holds (StaysIn net.wiring (rules_of net rs) new.inside.items new.edge.items) c.outs-outs.result.now c.loop-a.a-index c.a-item.result c.loop-a-test.true c.a-item.is e.stays
          (λ k kl. stays_grows net rs reach.inside.items new.inside.items reach.edge.items new.edge.items (get_or c.outs-outs.result.now k 0) e.inside e.edge (c.loop-a.invariant.stay k kl));
    }

pub returns-clause-stay : goal.returns-clause-stay
returns-clause-stay g c = λ a i. each_member (StaysIn (g.R.Links.network c.args.rules.now).wiring (rules_of (g.R.Links.network c.args.rules.now) (g.R.PathRules.rules c.args.rules.now)) c.loop-a.reach.inside.items c.loop-a.reach.edge.items) c.outs-outs.result.now (λ k l. c.loop-a.invariant.stay k (let t = c.loop-a-test.false in omega arith)) a (subst (λ (xs : List ℕ). In xs a) (sym c.outs-outs.ensures) i)
