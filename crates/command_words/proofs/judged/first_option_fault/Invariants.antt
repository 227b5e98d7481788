use Rattle.std.proofs.Common.{◌≡◌, take, drop}
use Rattle.words.specs.Firsts.{first_fault_after, first_fault}
use Rattle.commands.specs.Options.{option_fault}
use Rattle.command_words.proofs.judged.first_option_fault.Given as goal

-- the first fault is among the options that are left
abbrev pub invariant-loop-option : goal.invariant-loop-option
invariant-loop-option l = record {
  counted : l.place ≡ l.option-index;
  rest : first_fault_after (option_fault l.allowed) (take l.option-index l.given) (drop l.option-index l.given) ≡ first_fault (option_fault l.allowed) l.given;
}
