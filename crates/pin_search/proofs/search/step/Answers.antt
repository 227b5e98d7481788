use Rattle.std.proofs.Common.{ℕ, ◌<◌, false, List, set, sym, ap, subst, refl, arith, get_or, length}
use Rattle.std.specs.List.{sum}
use Rattle.pin_search.specs.Labels.{far}
use Rattle.pin_search.proofs.Stepping.{left_wire, passed_over, taken_out, ends_beyond, ends_empty, same_search}
use Rattle.pin_search.proofs.search.step.Goals as goal

pub returns-in_default-clause-over : goal.returns-in_default-clause-over
returns-in_default-clause-over g c = λ _. ends_empty (g.R.Links.network c.args.rules.now) (g.R.PathRules.rules c.args.rules.now) c.args.pin c.args.front.now.labels.items c.args.front.now.waiting.items c.args.front.now.queue c.args.front.now.touched.items c.args.front.now.best c.requires.search c.in_default.ensures

pub returns-then-is_beyond-clause-over : goal.returns-then-is_beyond-clause-over
returns-then-is_beyond-clause-over g c = λ _. ends_beyond (g.R.Links.network c.args.rules.now) (g.R.PathRules.rules c.args.rules.now) c.args.pin c.args.front.now.labels.items c.args.front.now.waiting.items c.args.front.now.queue c.pop.new.self c.args.front.now.touched.items c.args.front.now.best c.in-Some.top.weight c.in-Some.top.wire c.requires.search c.in-Some.ensures.1 (c.is_beyond.ensures.0 c.if-is_beyond.true) c.in-Some.ensures.0

pub take-requires-clause-wire : goal.take-requires-clause-wire
take-requires-clause-wire g c = let w = left_wire (g.R.Links.network c.args.rules.now) (g.R.PathRules.rules c.args.rules.now) c.args.pin c.args.front.now.labels.items c.args.front.now.waiting.items c.args.front.now.queue c.pop.new.self c.args.front.now.touched.items c.args.front.now.best c.in-Some.top.weight c.in-Some.top.wire c.requires.search c.in-Some.ensures.1 in let e = c.requires.search.labels_len in omega arith

pub returns-then-not-take-clause-search : goal.returns-then-not-take-clause-search
returns-then-not-take-clause-search g c = λ _.
    let left = c.take.ensures.left c.if-not-take.true in
    same_search (g.R.Links.network c.args.rules.now) (g.R.PathRules.rules c.args.rules.now) c.args.pin c.args.front.now.labels.items c.args.front.now.waiting.items c.pop.new.self c.args.front.now.touched.items c.args.front.now.best
    (g.R.Links.network c.args.rules.now).wiring.wires c.take.new.front.labels.items c.take.new.front.waiting.items c.take.new.front.queue c.take.new.front.touched.items c.take.new.front.best
    (passed_over (g.R.Links.network c.args.rules.now) (g.R.PathRules.rules c.args.rules.now) c.args.pin c.args.front.now.labels.items c.args.front.now.waiting.items c.args.front.now.queue c.pop.new.self c.args.front.now.touched.items c.args.front.now.best c.in-Some.top.weight c.in-Some.top.wire c.requires.search c.in-Some.ensures.1 left.1)
    c.take.ensures.labels left.0 c.take.ensures.queue c.take.ensures.touched c.take.ensures.best

pub spread-requires-clause-turn : goal.spread-requires-clause-turn
spread-requires-clause-turn g c =
    let net = g.R.Links.network c.args.rules.now in
    let rs = g.R.PathRules.rules c.args.rules.now in
    let front = c.args.front.now in
    let took = c.take.ensures.taken (let f = c.if-not-take.false in cc) in
    record {
      search = same_search net rs c.args.pin front.labels.items (set front.waiting.items c.in-Some.top.wire false) c.pop.new.self front.touched.items front.best
          c.in-Some.top.wire c.take.new.front.labels.items c.take.new.front.waiting.items c.take.new.front.queue c.take.new.front.touched.items c.take.new.front.best
          (taken_out net rs c.args.pin front.labels.items front.waiting.items front.queue c.pop.new.self front.touched.items front.best c.in-Some.top.weight c.in-Some.top.wire c.requires.search c.in-Some.ensures.1)
          c.take.ensures.labels took.2 c.take.ensures.queue c.take.ensures.touched c.take.ensures.best;
      wire = left_wire net rs c.args.pin front.labels.items front.waiting.items front.queue c.pop.new.self front.touched.items front.best c.in-Some.top.weight c.in-Some.top.wire c.requires.search c.in-Some.ensures.1;
      label_is = refl;
      near = subst (λ (xs : List ℕ). get_or xs c.in-Some.top.wire 0 < far) (sym c.take.ensures.labels)
          (c.requires.search.marked c.in-Some.top.wire (left_wire net rs c.args.pin front.labels.items front.waiting.items front.queue c.pop.new.self front.touched.items front.best c.in-Some.top.weight c.in-Some.top.wire c.requires.search c.in-Some.ensures.1) took.0).0;
    }

pub returns-clause-less : goal.returns-clause-less
returns-clause-less g c = λ _.
    let m = c.in_ok-spread.ensures.moves.less_work in
    let s = ap sum c.take.ensures.labels in
    let q = ap (λ (xs : List (ℕ × ℕ)). length xs) c.take.ensures.queue in
    let n = c.in-Some.ensures.1.count in omega arith

pub returns-then-not-take-clause-less : goal.returns-then-not-take-clause-less
returns-then-not-take-clause-less g c = λ _.
    let s = ap sum c.take.ensures.labels in
    let q = ap (λ (xs : List (ℕ × ℕ)). length xs) c.take.ensures.queue in
    let n = c.in-Some.ensures.1.count in omega arith
