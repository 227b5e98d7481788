use Rattle.std.proofs.Common.{◌≡◌, ◌↔◌, ℕ, List, subst, sym, ◌∙◌}
use Rattle.words.specs.Members.{In}
use Rattle.net_search.specs.declared.reach.Mark.{Mark}
use Rattle.net_search.specs.Marks.{IsOutside}
use Rattle.net_search.specs.Gathering.{Blocks}
use Rattle.net_search.proofs.Cutting.{blocks}
use Rattle.net_search.proofs.cut.cut_of.Goals as goal

pub returns : goal.returns
returns g c =
    let net = g.R.Links.network c.args.rules.now in
    let rs = g.R.PathRules.rules c.args.rules.now in
    let reach = c.args.reach.now in
    let inside = c.in_order.result.items in
    let rim = c.in_order-2.result.items in
    let listed = c.in_ok-rim.rim.items in
    let e : c.in_ok-inside.inside.items ≡ reach.inside.items = c.in_ok-inside.ensures ∙ c.deref-3.ensures.value in
    let found : (w : ℕ) → In listed w ↔ (In reach.edge.items w × IsOutside reach.marks.items w) =
    subst (λ (ms : List Mark). (w : ℕ) → In listed w ↔ (In reach.edge.items w × IsOutside ms w)) c.deref.ensures.value
    (subst (λ (xs : List ℕ). (w : ℕ) → In listed w ↔ (In xs w × IsOutside c.deref.result.now w)) c.deref-2.ensures.value c.in_ok-rim.ensures) in
    subst (λ (xs : List ℕ). Blocks net rs c.args.pin xs c.from_vec-2.result) (sym c.from_vec.ensures)
    (subst (λ (ys : List ℕ). Blocks net rs c.args.pin inside ys) (sym c.from_vec-2.ensures)
    (blocks net rs reach.marks.items reach.inside.items reach.edge.items inside rim (record {
      net = c.requires.net;
      gathers = c.requires.ends.gathers;
      roots = c.requires.ends.roots;
      kept = c.requires.ends.kept;
      same = λ w. subst (λ (xs : List ℕ). In inside w ↔ In xs w) e (c.in_order.ensures.members w);
      rim_is = λ w. let m = c.in_order-2.ensures.members w in let f = found w in ((λ i. f.0 (m.0 i)), (λ h. m.1 (f.1 h)));
      inside_up = c.in_order.ensures.rising;
      rim_up = c.in_order-2.ensures.rising;
    }) c.args.pin c.requires.blocked))
