-- Bit k of the word of a list is bit k of the list.
use Rattle.std.proofs.Common.{◌≡◌, ℕ, zero, suc, ◌+◌, ◌*◌, ◌/◌, ◌%◌, Bool, true, false, List, [], ◌∷◌, Some, ap, ◌∙◌, arith}
use Rattle.std.specs.Prelude.{slice_get, if◌then◌else◌}
use Rattle.std.specs.Int.{bit_at}
use Rattle.std.proofs.lemmas.Nat.Bits.{bit_at_lowest, bit_at-suc}
use Rattle.cells.specs.Resolved.{word_of}

abbrev one_or_zero : Bool → ℕ
one_or_zero b = if b then 1 else 0

lowest : (b : Bool) (n : ℕ) → (one_or_zero b + 2 * n) % 2 ≡ one_or_zero b
lowest true n = omega arith
lowest false n = omega arith

others : (b : Bool) (n : ℕ) → (one_or_zero b + 2 * n) / 2 ≡ n
others true n = omega arith
others false n = omega arith

pub bit_of_word : (bits : List Bool) (k : ℕ) (b : Bool) → slice_get bits k ≡ Some b → bit_at (word_of bits) k ≡ (if b then 1 else 0)
bit_of_word [] k b h = absurd (let no : ⊥ = cc in no)
bit_of_word (c ∷ cs) zero b h = let same : c ≡ b = cc in bit_at_lowest (word_of (c ∷ cs)) ∙ lowest c (word_of cs) ∙ ap one_or_zero same
bit_of_word (c ∷ cs) (suc k) b h = bit_at-suc (word_of (c ∷ cs)) k ∙ ap (λ n. bit_at n k) (others c (word_of cs)) ∙ bit_of_word cs k b h
