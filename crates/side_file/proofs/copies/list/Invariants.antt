use Rattle.std.proofs.Common.{◌≡◌, take}
use Rattle.side_file.proofs.copies.list.Given as goal

-- the copies so far
abbrev pub invariant-loop-item : goal.invariant-loop-item
invariant-loop-item g l = l.copies ≡ take l.item-index l.items
