use Rattle.std.proofs.Common.{◌++◌, ℕ, List, ap, ◌∙◌}
use Rattle.upset_effect.proofs.Effecting.{both_in_order}
use Rattle.upset_effect.proofs.whole.joined.Goals as goal

pub returns : goal.returns
returns c =
    both_in_order c.args.first.now c.args.second.now c.extend_from_slice-2.new.self.items c.extend_from_slice.new.self.items c.in_order.result.items
    (c.in_ok-extend_from_slice.ensures.items ∙ ap (λ (zs : List ℕ). zs ++ c.args.first.now) c.new-wires.ensures.items)
    c.in_ok-extend_from_slice-2.ensures.items c.in_order.ensures
