use Rattle.std.proofs.Common.{◌≡◌, ◌≤◌, ◌-◌, List, [], ℕ, sym, subst, arith}
use Rattle.std.specs.Ordering.{nat_cmp}
use Rattle.std.proofs.lemmas.List.Sorted.{first_le_from_greatest}
use Rattle.wire_queue.specs.Waiting.{Leaves, most}
use Rattle.wire_queue.proofs.Heaped.{leaves, none_left}
use Rattle.wire_queue.proofs.Queue.pop.Goals as goal

pub returns-in_default : goal.returns-in_default
returns-in_default c = subst (λ (xs : List (ℕ × ℕ)). xs ≡ []) c.self.view_is (none_left c.self.inside.heap.data.items (let e = c.in_default.ensures.none in let f = c.in_default.ensures in omega arith))

pub returns : goal.returns
returns c =
    let sum = c.below_most.ensures in
    let small : c.in-Some.left ≤ most = omega arith in
    let is : most - c.in-Some.left ≡ c.below_most.result = omega arith in (
      omega arith,
      subst (λ (v : ℕ). Leaves c.args.self.now c.pop.new.self.data.items c.below_most.result v) (sym c.from_u32.ensures)
          (subst (λ (xs : List (ℕ × ℕ)). Leaves xs c.pop.new.self.data.items c.below_most.result c.in-Some.w) c.self.view_is
          (subst (λ (n : ℕ). Leaves c.self.inside.heap.data.items c.pop.new.self.data.items n c.in-Some.w) is
          (leaves c.self.inside.heap.data.items c.pop.new.self.data.items c.in-Some.left c.in-Some.w small c.in-Some.ensures.permutation
          (first_le_from_greatest nat_cmp (c.in-Some.left, c.in-Some.w) c.pop.new.self.data.items (c.in-Some.ensures.below_top c.self.invariant))))),
    )
