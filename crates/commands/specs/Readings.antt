-- The words of a command line: the command that they are read as, or the number of the first word that can't stand
-- where it stands, counted from 1. Where words run out or a needed option is missing, it is the number of words plus
-- one. (Our own.)
use Rattle.std.specs.Prelude.{ℕ, ◌+◌, Bool, true, false, List, [], ◌∷◌, ◌++◌, length, unwrap_or, Option, Some, None, Result, Ok, Err, codes, if◌then◌else◌}
use Rattle.std.specs.List.{list_any}
use Rattle.std.specs.Option.{option_and_then}
use Rattle.std.specs.Str.{bytes_eq}
use Rattle.words.specs.Firsts.{first_fault}
use Rattle.patterns.specs.Bits.{DeviceBit}
use Rattle.texts.specs.Numbers.{decimal_of}
use Rattle.records.specs.Limits.{most_blocks}
use Rattle.records.specs.Ripping.{Rip, RipUnsafe, RipAll}
use Rattle.commands.specs.BitWords.{bit_words}
use Rattle.commands.specs.Commands.{Inputs, Hardening, Command, Drivers, Check, Analyse, Harden, Run}
use Rattle.commands.specs.Options.{Given, given_from, Kind, Text, OutName, Rounds, WhatToRip, Allowed, option_fault, lacks_one, value_given, rounds_of, number_within}

abbrev pub needed : List ℕ → Kind → Allowed
needed name kind = record { name = name; kind = kind; needed = true }

abbrev pub optional : List ℕ → Kind → Allowed
optional name kind = record { name = name; kind = kind; needed = false }

-- the options of `check` and `analyse`
abbrev pub input_options : List Allowed
input_options = needed (codes "--family") Text ∷ needed (codes "--profile") Text ∷ needed (codes "--side") Text ∷ needed (codes "--config") Text ∷ []

-- the options of `harden`
abbrev pub harden_options : List Allowed
harden_options =
    input_options
    ++ needed (codes "--out") OutName ∷ needed (codes "--side-out") OutName ∷ needed (codes "--cut-out") OutName
    ∷ optional (codes "--rounds") Rounds ∷ optional (codes "--rip") WhatToRip ∷ []

-- the options that words give, the first of which is word 2; or the number of the first that can't stand there
abbrev pub without_fault : List Allowed → List Given → Option ℕ → ℕ → Result (List Given) ℕ
without_fault allowed given (Some number) words = Err number
without_fault allowed given None words = if lacks_one allowed given then Err (words + 2) else Ok given

abbrev pub options_of : List Allowed → List (List ℕ) → Result (List Given) ℕ
options_of allowed words =
    without_fault allowed (given_from 2 words) (first_fault (option_fault allowed) (given_from 2 words)) (length words)

abbrev pub text_of : List Given → List ℕ → List ℕ
text_of given name = unwrap_or (value_given given name) []

abbrev pub inputs_of : List Given → Inputs
inputs_of given = record {
  family = text_of given (codes "--family");
  profile = text_of given (codes "--profile");
  side = text_of given (codes "--side");
  config = text_of given (codes "--config");
}

-- the attempts where no number is given
abbrev pub default_rounds : ℕ
default_rounds = 32

abbrev pub rip_of : Option (List ℕ) → Rip
rip_of None = RipUnsafe
rip_of (Some value) = if bytes_eq value (codes "all") then RipAll else RipUnsafe

abbrev pub hardening_of : List Given → Hardening
hardening_of given = record {
  out = text_of given (codes "--out");
  side_out = text_of given (codes "--side-out");
  cut_out = text_of given (codes "--cut-out");
  rounds = unwrap_or (option_and_then rounds_of (value_given given (codes "--rounds"))) default_rounds;
  rip = rip_of (value_given given (codes "--rip"));
}

abbrev pub with_options : (List Given → Command) → Result (List Given) ℕ → Result Command ℕ
with_options command (Ok given) = Ok (command given)
with_options command (Err number) = Err number

abbrev pub run_of : Option ℕ → List (List ℕ) → Result Command ℕ
run_of None words = Err 2
run_of (Some blocks) [] = Ok (Run blocks)
run_of (Some blocks) (word ∷ words) = Err 3

-- the words behind `run`
abbrev pub run_words : List (List ℕ) → Result Command ℕ
run_words [] = Err 2
run_words (word ∷ words) = run_of (number_within 1 most_blocks (decimal_of word)) words

abbrev pub drivers_with : List ℕ → Result (List DeviceBit) ℕ → Result Command ℕ
drivers_with name (Ok bits) = Ok (Drivers name bits)
drivers_with name (Err k) = Err k

-- the words behind `drivers`: NAME BIT..
abbrev pub drivers_words : List (List ℕ) → Result Command ℕ
drivers_words [] = Err 2
drivers_words (name ∷ words) = drivers_with name (bit_words 3 words)

-- the words behind the name of a command
abbrev pub command_words : List ℕ → List (List ℕ) → Result Command ℕ
command_words name words =
    if bytes_eq name (codes "drivers") then drivers_words words
    else if bytes_eq name (codes "check") then with_options (λ given. Check (inputs_of given)) (options_of input_options words)
    else if bytes_eq name (codes "analyse") then with_options (λ given. Analyse (inputs_of given)) (options_of input_options words)
    else if bytes_eq name (codes "harden") then with_options (λ given. Harden (inputs_of given) (hardening_of given)) (options_of harden_options words)
    else if bytes_eq name (codes "run") then run_words words
    else Err 1

abbrev pub is_among : List (List ℕ) → List ℕ → Bool
is_among names name = list_any (λ known. bytes_eq name known) names

-- The command of all words, of those commands that a program knows by their names: the first word is such a name, and
-- says which command it is.
abbrev pub reading_of : List (List ℕ) → List (List ℕ) → Result Command ℕ
reading_of known [] = Err 1
reading_of known (name ∷ words) = if is_among known name then command_words name words else Err 1

-- the names of all commands
abbrev pub all_commands : List (List ℕ)
all_commands = codes "drivers" ∷ codes "check" ∷ codes "analyse" ∷ codes "harden" ∷ codes "run" ∷ []
