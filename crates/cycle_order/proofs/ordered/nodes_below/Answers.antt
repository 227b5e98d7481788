use Rattle.std.proofs.Common.{ℕ, ◌∷◌, [], ◌++◌, List, ap₂, sym, ◌∙◌}
use Rattle.cycle_order.proofs.Ordering.{range_more}
use Rattle.cycle_order.proofs.ordered.nodes_below.Goals as goal

pub loop-number-preserved : goal.loop-number-preserved
loop-number-preserved c =
    c.in_ok-push.ensures.items ∙ (ap₂ (λ (zs : List ℕ) (n : ℕ). zs ++ n ∷ []) c.loop-number.invariant c.from_u32.ensures ∙ sym (range_more c.loop-number.number))
