use Rattle.std.proofs.Common.{ℕ, List, get_or, sym, subst, arith}
use Rattle.words.specs.Members.{In}
use Rattle.net_links.proofs.Listed.{met, one_more_holds, each_member}
use Rattle.net_search.proofs.Growing.{grows_in}
use Rattle.net_search.proofs.Gathered.{reached_root}
use Rattle.net_search.proofs.gather.begin.Goals as goal

pub enter-requires : goal.enter-requires
enter-requires g c =
    let net = g.R.Links.network c.args.rules.now in
    let rs = g.R.PathRules.rules c.args.rules.now in
    let h : In rs.tree c.w-item.result = c.requires.net.roots c.w-item.result (subst (λ (xs : List ℕ). In xs c.w-item.result) c.roots-roots.ensures (met c.roots-roots.result.now c.loop-w.w-index c.w-item.result c.loop-w-test.true c.w-item.is)) in
    record {
      wire = c.requires.net.tree.below c.w-item.result h;
      path = reached_root net rs c.w-item.result h;
      gathers = c.loop-w.invariant.gathers;
    }

pub loop-w-preserved : goal.loop-w-preserved
loop-w-preserved g c =
    let reach = c.loop-w.reach in
    let new = c.enter.new.reach in
    let e = c.in_ok-enter.ensures in
    record {
      gathers = e.gathers;
      roots = one_more_holds (In new.inside.items) c.roots-roots.result.now c.loop-w.w-index c.w-item.result c.loop-w-test.true c.w-item.is e.entered
          (λ k kl. grows_in reach.inside.items new.inside.items (get_or c.roots-roots.result.now k 0) e.inside (c.loop-w.invariant.roots k kl));
    }

pub returns-clause-roots : goal.returns-clause-roots
returns-clause-roots g c = λ x i. each_member (In c.loop-w.reach.inside.items) c.roots-roots.result.now (λ k l. c.loop-w.invariant.roots k (let t = c.loop-w-test.false in omega arith)) x (subst (λ (xs : List ℕ). In xs x) (sym c.roots-roots.ensures) i)
