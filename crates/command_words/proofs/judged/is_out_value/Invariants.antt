use Rattle.std.proofs.Common.{◌≡◌, false, take, ◌&&◌}
use Rattle.std.specs.List.{list_any}
use Rattle.commands.specs.Options.{is_out, has_value}
use Rattle.command_words.proofs.judged.is_out_value.Given as goal

-- no option so far says to write there
abbrev pub invariant-loop-option : goal.invariant-loop-option
invariant-loop-option l = list_any (λ g. is_out l.allowed g.name && has_value l.value g.value) (take l.option-index l.before) ≡ false
