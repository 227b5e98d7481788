use Rattle.std.proofs.Common.{List, ℕ, ◌≡◌, ◌-◌, subst, arith}
use Rattle.wire_queue.specs.Waiting.{LetIn, most}
use Rattle.wire_queue.proofs.Heaped.{let_in}
use Rattle.wire_queue.proofs.Queue.push.Goals as goal

pub returns : goal.returns
returns c =
    let sum = c.below_most.ensures in
    let is : c.below_most.result ≡ most - c.args.weight = omega arith in
    subst (λ (xs : List (ℕ × ℕ)). LetIn xs c.push.new.self.data.items c.args.weight c.args.w) c.self.view_is
    (subst (λ (v : ℕ). LetIn c.self.inside.heap.data.items c.push.new.self.data.items c.args.weight v) c.to_u32.ensures
    (let_in c.self.inside.heap.data.items c.push.new.self.data.items c.args.weight c.to_u32.result c.below_most.result is c.in_ok-push.ensures.permutation))
