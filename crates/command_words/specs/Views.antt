-- The command that the program's enum says, and the number of the word at which there is no reading.
use Rattle.std.specs.Prelude.{ℕ, List, Option, Some, None, Result}
use Rattle.commands.specs.Commands as commands
use Rattle.commands.specs.Readings.{options_of, input_options, harden_options, inputs_of, hardening_of, with_options}
use Rattle.command_words.specs.declared.command.Command.{Command}
use Rattle.command_words.specs.declared.command.Command.TheVariants.{Drivers, Check, Analyse, Harden, Run}
use Rattle.command_words.specs.declared.errors.WordsError.{WordsError}
use Rattle.command_words.specs.declared.errors.WordsError.TheVariants.{Usage, Memory}

abbrev pub command_view : Command → commands.Command
command_view (Drivers name bits) = commands.Drivers name.now bits
command_view (Check inputs) = commands.Check inputs
command_view (Analyse inputs) = commands.Analyse inputs
command_view (Harden inputs hardening) = commands.Harden inputs hardening
command_view (Run blocks) = commands.Run blocks

-- none for want of memory
abbrev pub usage_of : WordsError → Option ℕ
usage_of (Usage word) = Some word
usage_of Memory = None

-- what the words behind `check` say, and those behind `analyse`
abbrev pub check_read : List (List ℕ) → Result commands.Command ℕ
check_read words = with_options (λ given. commands.Check (inputs_of given)) (options_of input_options words)

abbrev pub analyse_read : List (List ℕ) → Result commands.Command ℕ
analyse_read words = with_options (λ given. commands.Analyse (inputs_of given)) (options_of input_options words)

-- what the words behind `harden` say
abbrev pub harden_read : List (List ℕ) → Result commands.Command ℕ
harden_read words = with_options (λ given. commands.Harden (inputs_of given) (hardening_of given)) (options_of harden_options words)
