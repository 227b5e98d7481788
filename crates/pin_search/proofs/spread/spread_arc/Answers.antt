use Rattle.std.proofs.Common.{◌≡◌, ℕ, ◌≤◌, ◌<◌, true, subst, arith, get_or}
use Rattle.words.specs.Members.{In}
use Rattle.pin_search.specs.Labels.{far, label_by, IsTaken}
use Rattle.pin_search.proofs.Taking.{taken_by, stands_arc, best_joins, label_is, small_label}
use Rattle.pin_search.proofs.Lowering.{best_lowered}
use Rattle.pin_search.proofs.spread.spread_arc.Goals as goal

pub returns-then-takes-clause-turn : goal.returns-then-takes-clause-turn
returns-then-takes-clause-turn g c =
    let net = g.R.Links.network c.args.rules.now in
    let rs = g.R.PathRules.rules c.args.rules.now in
    let front = c.args.front.now in
    let t = c.requires.turn in
    let takes : rs.takes c.args.a ≡ true = (let e = c.takes.ensures in let f = c.if-takes.true in cc) in
    let taken : IsTaken net rs c.args.a = taken_by net rs c.args.a c.args.w c.requires.arc c.requires.sink c.requires.entered takes in
    let small : c.to_u32.result < 4294967296 = omega arith in
    let number : c.to_u32.result ≡ c.args.a = c.to_u32.ensures in
    let few : c.args.a < 4294967296 = omega arith in
    let is : c.new-label.result ≡ label_by net rs (get_or front.labels.items c.args.w 0) c.args.a = label_is net rs c.args.a c.args.w (get_or front.labels.items c.args.w 0) c.args.weight c.to_u32.result c.new-label.result c.requires.sink c.requires.weight number c.new-label.ensures in
    let near : c.new-label.result < far = small_label c.args.weight c.to_u32.result c.new-label.result front.touched.items c.new-label.ensures small c.requires.small c.requires.few in
    let less : c.new-label.result < front.best = c.is_below.ensures.0 (let f = c.if-not-is_below.false in cc) in
    let most : c.new-label.result ≤ far = omega arith in
    let fewer : c.new-label.result ≤ front.best = omega arith in
    let tree = c.in_tree.ensures.0 (let f = c.if-in_tree.true in cc) in
    record {
      search = best_lowered net rs c.args.pin c.args.w front.labels.items front.waiting.items front.queue front.touched.items front.best c.new-label.result t.search
          (best_joins net rs front.labels.items c.args.a c.args.w c.new-label.result taken (subst (λ (z : ℕ). In rs.tree z) c.arc-source.ensures.source tree) few c.requires.sink (let k = t.near in omega arith) is most) fewer near;
      wire = t.wire;
      label_is = t.label_is;
      near = t.near;
    }

pub lower-requires-clause-stands : goal.lower-requires-clause-stands
lower-requires-clause-stands g c =
    let net = g.R.Links.network c.args.rules.now in
    let rs = g.R.PathRules.rules c.args.rules.now in
    let front = c.args.front.now in
    let t = c.requires.turn in
    let takes : rs.takes c.args.a ≡ true = (let e = c.takes-2.ensures in let f = c.if-not-takes.false in cc) in
    let taken : IsTaken net rs c.args.a = taken_by net rs c.args.a c.args.w c.requires.arc c.requires.sink c.requires.entered takes in
    let small : c.to_u32.result < 4294967296 = omega arith in
    let number : c.to_u32.result ≡ c.args.a = c.to_u32.ensures in
    let few : c.args.a < 4294967296 = omega arith in
    let is : c.new-label.result ≡ label_by net rs (get_or front.labels.items c.args.w 0) c.args.a = label_is net rs c.args.a c.args.w (get_or front.labels.items c.args.w 0) c.args.weight c.to_u32.result c.new-label.result c.requires.sink c.requires.weight number c.new-label.ensures in
    stands_arc net rs c.args.pin front.labels.items c.args.a c.args.w c.arc-source.result.source c.new-label.result taken few c.requires.sink t.near c.arc-source.ensures.source is
