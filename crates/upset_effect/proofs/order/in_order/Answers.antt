use Rattle.upset_effect.proofs.Sorted.{ordered, same_numbers, sorted_numbers}
use Rattle.upset_effect.proofs.order.in_order.Goals as goal

pub returns : goal.returns
returns c = ordered c.args.wires.items c.sort_unstable.new.self.items c.dedup.new.self.items c.sort_unstable.ensures.permutation (sorted_numbers _ c.sort_unstable.ensures.sorted) (same_numbers _ _ c.dedup.ensures.filtered)
