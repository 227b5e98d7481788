use Rattle.std.proofs.Common.{◌≡◌, drop, bytes_eq, find}
use Rattle.command_words.proofs.given.value_given.Given as goal

-- the first option of the name is among those that are left
abbrev pub invariant-loop-option : goal.invariant-loop-option
invariant-loop-option l = find (λ g. bytes_eq g.name l.name) (drop l.option-index l.given) ≡ find (λ g. bytes_eq g.name l.name) l.given
