use Rattle.std.proofs.Common.{◌≡◌, ◌++◌, map, option_map}
use Rattle.grammars.specs.BitsDb as db
use Rattle.bits_db.proofs.row.with_bits.Given as goal

-- the bits so far in front of those of the words that are left are all bits
abbrev pub invariant-loop-word : goal.invariant-loop-word
invariant-loop-word l =
    option_map (λ more. l.pattern ++ more) (db.pattern_of (map (λ w. w.text) l.word-iterator))
    ≡ option_map (λ more. l.fn.pattern ++ more) (db.pattern_of (map (λ w. w.text) l.fn.words))
