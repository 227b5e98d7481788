use Rattle.net_search.proofs.Sorted.{ordered_in, ordered_rising, same_numbers, sorted_numbers}
use Rattle.net_search.proofs.cut.in_order.Goals as goal

pub returns-clause-rising : goal.returns-clause-rising
returns-clause-rising c = ordered_rising c.sort_unstable.new.self.items c.dedup.new.self.items (sorted_numbers _ c.sort_unstable.ensures.sorted) (same_numbers _ _ c.dedup.ensures.filtered)

pub returns-clause-members : goal.returns-clause-members
returns-clause-members c = λ w. ordered_in c.args.wires.items c.sort_unstable.new.self.items c.dedup.new.self.items w c.sort_unstable.ensures.permutation (same_numbers _ _ c.dedup.ensures.filtered)
