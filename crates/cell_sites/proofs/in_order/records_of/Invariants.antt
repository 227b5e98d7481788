use Rattle.std.proofs.Common.{◌≡◌, ◌++◌, map}
use Rattle.cell_sites.proofs.in_order.records_of.Given as goal

-- the records so far and those that are left are all
abbrev pub invariant-loop-item : goal.invariant-loop-item
invariant-loop-item g l = map (λ i. i.now) l.ordered.items ++ map (λ e. e.1.now) l.item-iterator ≡ map (λ e. e.1.now) l.fn.by_name.entries
