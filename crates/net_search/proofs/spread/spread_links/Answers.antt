use Rattle.std.proofs.Common.{ℕ, List, get_or, sym, subst, arith}
use Rattle.words.specs.Members.{In}
use Rattle.net_links.proofs.Listed.{met, one_more_holds, each_member}
use Rattle.net_search.proofs.Growing.{grows_in, grows_on, grows_self}
use Rattle.net_search.proofs.Gathered.{reached_link}
use Rattle.net_search.proofs.spread.spread_links.Goals as goal

pub loop-x-init : goal.loop-x-init
loop-x-init g c = record {
  gathers = c.requires.gathers;
  inside = grows_self c.args.reach.now.inside.items;
  edge = grows_self c.args.reach.now.edge.items;
  links = λ k h. absurd (omega arith);
}

pub enter-requires : goal.enter-requires
enter-requires g c =
    let net = g.R.Links.network c.args.rules.now in
    let rs = g.R.PathRules.rules c.args.rules.now in
    let h : In (rs.next c.args.w) c.x-item.result = subst (λ (xs : List ℕ). In xs c.x-item.result) c.next-next.ensures (met c.next-next.result.now c.loop-x.x-index c.x-item.result c.loop-x-test.true c.x-item.is) in
    let below = c.requires.gathers.wires c.args.w c.requires.from in
    record {
      wire = c.requires.net.rules.nexts c.args.w c.x-item.result below h;
      path = reached_link net rs c.args.w c.x-item.result c.requires.net.tree (c.requires.gathers.paths c.args.w c.requires.from) h;
      gathers = c.loop-x.invariant.gathers;
    }

pub loop-x-preserved : goal.loop-x-preserved
loop-x-preserved g c =
    let reach = c.loop-x.reach in
    let new = c.enter.new.reach in
    let e = c.in_ok-enter.ensures in
    record {
      gathers = e.gathers;
      inside = grows_on c.args.reach.now.inside.items reach.inside.items new.inside.items c.loop-x.invariant.inside e.inside;
      edge = grows_on c.args.reach.now.edge.items reach.edge.items new.edge.items c.loop-x.invariant.edge e.edge;
      links = one_more_holds (In new.inside.items) c.next-next.result.now c.loop-x.x-index c.x-item.result c.loop-x-test.true c.x-item.is e.entered
          (λ k kl. grows_in reach.inside.items new.inside.items (get_or c.next-next.result.now k 0) e.inside (c.loop-x.invariant.links k kl));
    }

pub returns-clause-links : goal.returns-clause-links
returns-clause-links g c = λ x i. each_member (In c.loop-x.reach.inside.items) c.next-next.result.now (λ k l. c.loop-x.invariant.links k (let t = c.loop-x-test.false in omega arith)) x (subst (λ (xs : List ℕ). In xs x) (sym c.next-next.ensures) i)
