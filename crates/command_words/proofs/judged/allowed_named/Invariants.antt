use Rattle.std.proofs.Common.{◌≡◌, drop, bytes_eq, find}
use Rattle.command_words.proofs.judged.allowed_named.Given as goal

-- the first option of the name is among those that are left
abbrev pub invariant-loop-option : goal.invariant-loop-option
invariant-loop-option l = find (λ a. bytes_eq a.name l.name) (drop l.option-index l.allowed) ≡ find (λ a. bytes_eq a.name l.name) l.allowed
