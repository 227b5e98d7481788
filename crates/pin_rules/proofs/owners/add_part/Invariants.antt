use Rattle.std.proofs.Common.{◌≡◌, ◌++◌, replicate}
use Rattle.pin_rules.specs.declared.owners.PinOwner.TheVariants.{Part}
use Rattle.pin_rules.proofs.owners.add_part.Given as goal

-- the part was added so many times
abbrev pub invariant-loop-place : goal.invariant-loop-place
invariant-loop-place l = l.owners.items ≡ l.fn.owners.items ++ replicate l._place (Part l.part)
