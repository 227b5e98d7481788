use Rattle.std.proofs.Common.{◌≡◌, ◌+◌, ◌-◌, ◌≤◌, length, map, drop, ◌++◌}
use Rattle.std.specs.Prelude.{string_bytes}
use Rattle.commands.specs.Options.{given_from}
use Rattle.command_words.proofs.given.given_options.Given as goal

-- the options so far are followed by those of the words that are left
abbrev pub invariant-loop-place : goal.invariant-loop-place
invariant-loop-place l = record {
  near : l.place ≤ length l.words + 1;
  rest : l.given.items ++ given_from (l.place + 2) (map string_bytes (drop l.place l.words)) ≡ given_from 2 (map string_bytes l.words);
}

-- fewer words are left each time
abbrev pub decreases-loop-place : goal.decreases-loop-place
decreases-loop-place l = length l.words + 1 - l.place
