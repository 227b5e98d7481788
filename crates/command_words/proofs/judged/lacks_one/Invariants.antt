use Rattle.std.proofs.Common.{◌≡◌, false, take, ◌&&◌, not}
use Rattle.std.specs.List.{list_any}
use Rattle.commands.specs.Options.{is_given}
use Rattle.command_words.proofs.judged.lacks_one.Given as goal

-- no option so far is needed and missing
abbrev pub invariant-loop-option : goal.invariant-loop-option
invariant-loop-option l = list_any (λ a. a.needed && not (is_given l.given a.name)) (take l.option-index l.allowed) ≡ false
