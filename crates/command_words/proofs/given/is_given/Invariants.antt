use Rattle.std.proofs.Common.{◌≡◌, false, take, bytes_eq}
use Rattle.std.specs.List.{list_any}
use Rattle.command_words.proofs.given.is_given.Given as goal

-- no option so far has the name
abbrev pub invariant-loop-option : goal.invariant-loop-option
invariant-loop-option l = list_any (λ g. bytes_eq g.name l.name) (take l.option-index l.given) ≡ false
