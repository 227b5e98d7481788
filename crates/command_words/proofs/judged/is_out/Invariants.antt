use Rattle.std.proofs.Common.{◌≡◌, false, take, bytes_eq, ◌&&◌}
use Rattle.std.specs.List.{list_any}
use Rattle.commands.specs.Options.{is_out_name}
use Rattle.command_words.proofs.judged.is_out.Given as goal

-- no option so far has the name and is an out name
abbrev pub invariant-loop-option : goal.invariant-loop-option
invariant-loop-option l = list_any (λ a. bytes_eq a.name l.name && is_out_name a.kind) (take l.option-index l.allowed) ≡ false
