use Rattle.std.proofs.Common.{◌≡◌, ◌++◌, drop}
use Rattle.config_text.proofs.copy.copy_words.Given as goal

-- the copies so far and what is left are all
abbrev pub invariant-loop-word : goal.invariant-loop-word
invariant-loop-word l = l.copied ++ drop l.word-index l.words ≡ l.words
