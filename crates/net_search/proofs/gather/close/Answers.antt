use Rattle.std.proofs.Common.{ℕ, ◌≡◌, ◌<◌, List, length, get_or, sym, subst, ap, ◌∙◌, arith, below_more}
use Rattle.words.specs.Members.{In}
use Rattle.net_links.specs.Nets.{rules_of}
use Rattle.net_links.proofs.Listed.{each_member, in_at}
use Rattle.route_cut.specs.Checked.{IsKept}
use Rattle.net_search.proofs.Growing.{grows_in}
use Rattle.net_search.proofs.Gathered.{few_inside, kept_grows}
use Rattle.net_search.proofs.gather.close.Goals as goal

pub spread-requires-clause-from : goal.spread-requires-clause-from
spread-requires-clause-from g c =
    let inside = c.loop-count.reach.inside.items in
    let e : c.wire_at-w.result ≡ get_or inside c.loop-count.count 0 = c.wire_at-w.ensures ∙ ap (λ (xs : List ℕ). get_or xs c.loop-count.count 0) c.deref.ensures.value in
    subst (In inside) (sym e) (in_at inside c.loop-count.count (let l = c.len.ensures in let t = c.loop-count-test.true in omega arith))

pub loop-count-preserved : goal.loop-count-preserved
loop-count-preserved g c =
    let net = g.R.Links.network c.args.rules.now in
    let rs = g.R.PathRules.rules c.args.rules.now in
    let reach = c.loop-count.reach in
    let new = c.spread.new.reach in
    let e = c.in_ok-spread.ensures in
    let within : c.loop-count.count < length reach.inside.items = (let l = c.len.ensures in let t = c.loop-count-test.true in omega arith) in
    let longer = e.inside.longer in
    let is : c.wire_at-w.result ≡ get_or new.inside.items c.loop-count.count 0 =
    c.wire_at-w.ensures ∙ (ap (λ (xs : List ℕ). get_or xs c.loop-count.count 0) c.deref.ensures.value ∙ sym (e.inside.same c.loop-count.count within)) in
    record {
      gathers = e.gathers;
      roots = λ w i. grows_in reach.inside.items new.inside.items w e.inside (c.loop-count.invariant.roots w i);
      within = omega arith;
      kept = below_more (λ k. IsKept net.wiring (rules_of net rs) new.inside.items new.edge.items (get_or new.inside.items k 0)) c.loop-count.count
          (λ k kl. subst (IsKept net.wiring (rules_of net rs) new.inside.items new.edge.items) (sym (e.inside.same k (omega arith)))
          (kept_grows net rs reach.inside.items new.inside.items reach.edge.items new.edge.items (get_or reach.inside.items k 0) e.inside e.edge (c.loop-count.invariant.kept k kl)))
          (subst (IsKept net.wiring (rules_of net rs) new.inside.items new.edge.items) is e.kept);
    }

pub loop-count-smaller : goal.loop-count-smaller
loop-count-smaller g c =
    let reach = c.loop-count.reach in
    let few = few_inside (g.R.Links.network c.args.rules.now) (g.R.PathRules.rules c.args.rules.now) reach.marks.items reach.inside.items reach.edge.items c.loop-count.invariant.gathers in
    let l = c.len.ensures in let t = c.loop-count-test.true in omega arith

pub returns-clause-ends : goal.returns-clause-ends
returns-clause-ends g c =
    let net = g.R.Links.network c.args.rules.now in
    let rs = g.R.PathRules.rules c.args.rules.now in
    let reach = c.loop-count.reach in
    record {
      gathers = c.loop-count.invariant.gathers;
      roots = c.loop-count.invariant.roots;
      kept = each_member (IsKept net.wiring (rules_of net rs) reach.inside.items reach.edge.items) reach.inside.items (λ k h. c.loop-count.invariant.kept k (let l = c.len.ensures in let t = c.loop-count-test.false in omega arith));
    }
