use Rattle.std.proofs.Common.{rules, ◌≡◌, ℕ, ◌+◌, ◌-◌, ◌<◌, List, [], ◌++◌, sym, subst, ap, ◌∙◌, arith, get_or}
use Rattle.std.proofs.lemmas.List.{append-nil}
use Rattle.pin_search.specs.Labels.{first_in}
use Rattle.pin_search.specs.Fronts.{Follows}
use Rattle.pin_search.proofs.Walking.{best_onward, label_onward, one_more}
use Rattle.pin_search.proofs.walk.follow.Goals as goal

pub walk-init : goal.walk-init
walk-init g c = record {
  onward = best_onward (g.R.Links.network c.args.rules.now) (g.R.PathRules.rules c.args.rules.now) c.args.pin c.args.front.now.labels.items c.args.front.now.best c.requires.ends c.requires.near;
  rest = λ rest f. subst (Follows (g.R.Links.network c.args.rules.now) c.args.front.now.labels.items (first_in c.args.front.now.best)) (sym (ap (λ (xs : List ℕ). xs ++ rest) c.new-arcs.ensures.items)) f;
}

pub overflow_cast-first : goal.overflow_cast-first
overflow_cast-first g c =
    let once = c.first.ensures in
    let twice = c.first-in-walk.ensures in
    let test = c.walk-test.true in
    let e : first_in c.walk.label ≡ (c.first-in-walk.result - 1) + 1 = omega arith in
    let small : c.first-in-walk.result - 1 < 4294967296 = (c.walk.invariant.onward (c.first-in-walk.result - 1) e).small in search rules

pub walk-preserved : goal.walk-preserved
walk-preserved g c =
    let net = g.R.Links.network c.args.rules.now in
    let rs = g.R.PathRules.rules c.args.rules.now in
    let labels = c.args.front.now.labels.items in
    let a = c.from_u32-a.result in
    let once = c.first.ensures in
    let twice = c.first-in-walk.ensures in
    let test = c.walk-test.true in
    let number = c.from_u32-a.ensures in
    let e : first_in c.walk.label ≡ c.from_u32-a.result + 1 = omega arith in
    let h = c.walk.invariant.onward c.from_u32-a.result e in
    let el : c.label_at-label.result ≡ get_or labels (net.wiring.sink c.from_u32-a.result) 0 = c.label_at-label.ensures ∙ (ap (λ (xs : List ℕ). get_or xs c.arc.result.sink 0) c.deref.ensures.value ∙ ap (λ (z : ℕ). get_or labels z 0) c.arc.ensures.sink) in
    record {
      onward = label_onward net rs c.args.pin labels c.args.front.now.best (net.wiring.sink c.from_u32-a.result) c.label_at-label.result c.requires.ends (c.requires.net.wiring.sinks c.from_u32-a.result h.taken.0) h.near el;
      rest = one_more net labels (first_in c.args.front.now.best) c.walk.label c.label_at-label.result c.from_u32-a.result c.walk.arcs.items c.push.new.self.items c.walk.invariant.rest e c.in_ok-push.ensures.items el;
    }

pub returns : goal.returns
returns g c =
    let once = c.first.ensures in
    let test = c.walk-test.false in
    let none : first_in c.walk.label ≡ 0 = omega arith in
    subst (Follows (g.R.Links.network c.args.rules.now) c.args.front.now.labels.items (first_in c.args.front.now.best)) (append-nil c.walk.arcs.items) (c.walk.invariant.rest [] none)
