use Rattle.std.proofs.Common.{◌≡◌, ◌+◌, map, drop}
use Rattle.std.specs.Prelude.{string_bytes}
use Rattle.commands.specs.BitWords.{bit_words}
use Rattle.command_words.proofs.WordBits.{behind}
use Rattle.command_words.proofs.bits.bit_words.Given as goal

-- the bits so far in front of those of the words that are left are all bits
abbrev pub invariant-loop-word : goal.invariant-loop-word
invariant-loop-word l = record {
  counted : l.number ≡ l.first + l.word-index;
  whole : behind l.bits (bit_words l.number (map string_bytes (drop l.word-index l.words))) ≡ bit_words l.first (map string_bytes l.words);
}
